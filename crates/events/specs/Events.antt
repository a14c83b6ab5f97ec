-- An event's numbers, and an answer's: document 01, 'The event table' and 'What comes back'.
-- Assumes nothing.
use Rattle.std.specs.Prelude.{List, [], ◌∷◌, ℕ}
use Rattle.events.specs.declared.Encoding.{Encoding}
use Rattle.events.specs.declared.Encoding.TheVariants.{Unsaid, Bit7, Bit8, Binary, QuotedPrintable, Base64, Unrecognised}
use Rattle.events.specs.declared.Event.{Event}
use Rattle.events.specs.declared.Kind.{Kind}
use Rattle.events.specs.declared.Kind.TheVariants as kinds
use Rattle.events.specs.declared.Outcome.{Outcome}
use Rattle.events.specs.declared.Outcome.TheVariants.{Done, Incomplete, TooLong, NoHello, StartTls, NoRecipient, BadDelimiter, SmallLiteral, OpenLiteral, TooDeep, TableFull, BareLf, LongBoundary, NoSession}

-- how many numbers an event is
abbrev pub width : ℕ
width = 4

-- the kinds
abbrev pub header_line : ℕ
header_line = 1

abbrev pub body_start : ℕ
body_start = 2

abbrev pub body_line : ℕ
body_line = 3

abbrev pub sized_body : ℕ
sized_body = 4

abbrev pub part_body : ℕ
part_body = 5

abbrev pub body_stop : ℕ
body_stop = 6

abbrev pub client_line : ℕ
client_line = 7

abbrev pub server_line : ℕ
server_line = 8

abbrev pub user : ℕ
user = 9

abbrev pub password : ℕ
password = 10

abbrev pub sender : ℕ
sender = 11

abbrev pub recipient : ℕ
recipient = 12

abbrev pub kind_number : Kind → ℕ
kind_number kinds.HeaderLine = header_line
kind_number kinds.BodyStart = body_start
kind_number kinds.BodyLine = body_line
kind_number kinds.SizedBody = sized_body
kind_number kinds.PartBody = part_body
kind_number kinds.BodyStop = body_stop
kind_number kinds.ClientLine = client_line
kind_number kinds.ServerLine = server_line
kind_number kinds.User = user
kind_number kinds.Password = password
kind_number kinds.Sender = sender
kind_number kinds.Recipient = recipient

abbrev pub encoding_number : Encoding → ℕ
encoding_number Unsaid = 0
encoding_number Bit7 = 1
encoding_number Bit8 = 2
encoding_number Binary = 3
encoding_number QuotedPrintable = 4
encoding_number Base64 = 5
encoding_number Unrecognised = 6

-- an event of a kind, at an offset, of so many bytes, with an encoding
abbrev pub ev : ℕ → ℕ → ℕ → Encoding → Event
ev k o l e = record { kind = k; offset = o; length = l; encoding = encoding_number e }

-- its numbers, in their order
abbrev pub numbers : Event → List ℕ
numbers e = e.kind ∷ e.offset ∷ e.length ∷ e.encoding ∷ []

-- the number of each result
abbrev pub result_number : Outcome → ℕ
result_number Done = 0
result_number Incomplete = 1
result_number TooLong = 2
result_number NoHello = 3
result_number StartTls = 4
result_number NoRecipient = 5
result_number BadDelimiter = 6
result_number SmallLiteral = 7
result_number OpenLiteral = 8
result_number TooDeep = 9
result_number TableFull = 10
result_number BareLf = 11  -- this and the next: windows only
result_number LongBoundary = 12
result_number NoSession = 20  -- windows only, and ours: a record that is no session's
