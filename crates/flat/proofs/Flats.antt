-- The numbers of a record stand for it again.
-- Assumes nothing.
use mathlib.Core.Path.{◌≡◌, refl, ap, ◌∙◌}
use mathlib.Core.Bool.{Bool, true, false}
use Prim.Native.Nat.{ℕ}
use Rattle.events.specs.Events.{encoding_number, result_number}
use Rattle.events.specs.declared.Encoding.{Encoding}
use Rattle.events.specs.declared.Encoding.TheVariants.{Unsaid, Bit7, Bit8, Binary, QuotedPrintable, Base64, Unrecognised}
use Rattle.events.specs.declared.Log.{Log}
use Rattle.events.specs.declared.Outcome.{Outcome}
use Rattle.events.specs.declared.Outcome.TheVariants as result
use Rattle.phases.specs.declared.Phase.{Phase}
use Rattle.phases.specs.declared.Phase.TheVariants as is
use Rattle.rules.specs.declared.Mail.{Mail}
use Rattle.rules.specs.declared.Mail.TheVariants.{Smtp, Pop3, Imap}
use Rattle.rules.specs.declared.Settings.{Settings}
use Rattle.flat.specs.Flats.{flat_of, bit, is_set, row_in, numbers_of, mail_of, encoding_of, outcome_of, fields_of, phase_by, phase_of, taken_of, log_of, settings_of}
use Rattle.flat.specs.declared.Flat.{Flat}

bit_again : (b : Bool) → is_set (bit b) ≡ b
bit_again true = refl
bit_again false = refl

encoding_again : (e : Encoding) → encoding_of (encoding_number e) ≡ e
unfolding encoding_of
encoding_again Unsaid = refl
encoding_again Bit7 = refl
encoding_again Bit8 = refl
encoding_again Binary = refl
encoding_again QuotedPrintable = refl
encoding_again Base64 = refl
encoding_again Unrecognised = refl

outcome_again : (r : Outcome) → outcome_of (result_number r) ≡ r
unfolding outcome_of
outcome_again result.Done = refl
outcome_again result.Incomplete = refl
outcome_again result.TooLong = refl
outcome_again result.NoHello = refl
outcome_again result.StartTls = refl
outcome_again result.NoRecipient = refl
outcome_again result.BadDelimiter = refl
outcome_again result.SmallLiteral = refl
outcome_again result.OpenLiteral = refl
outcome_again result.TooDeep = refl
outcome_again result.TableFull = refl
outcome_again result.BareLf = refl
outcome_again result.LongBoundary = refl
outcome_again result.NoSession = refl

-- of any fields, whatever their phase
fields_in : (m : Mail) (set : Settings) (f : Flat) (at : ℕ) (log : Log) → f.mail ≡ m → fields_of (row_in m set f at log) ≡ f
unfolding mail_of
fields_in Smtp set f at log h = rw (encoding_again f.encoding, bit_again f.here, bit_again f.supplied, outcome_again f.result, ← h)
fields_in Pop3 set f at log h = rw (encoding_again f.encoding, bit_again f.here, bit_again f.supplied, outcome_again f.result, ← h)
fields_in (Imap n b) set f at log h = rw (encoding_again f.encoding, bit_again f.here, bit_again f.supplied, outcome_again f.result, ← h)

phase_again : (ph : Phase) → phase_by (flat_of ph) ≡ ph
unfolding phase_by
phase_again is.Hello = refl
phase_again is.Second = refl
phase_again is.User = refl
phase_again is.Password = refl
phase_again is.Sender = refl
phase_again is.Seeking = refl
phase_again is.Recipient = refl
phase_again is.Reply = refl
phase_again is.Status = refl
phase_again is.Command = refl
phase_again (is.Offered size) = refl
phase_again is.Closing = refl
phase_again (is.Head m x i) = refl
phase_again (is.Text m e) = refl
phase_again (is.Literal e from left) = refl
phase_again (is.Preamble m i from here) = refl
phase_again (is.Opened m i) = refl
phase_again (is.Content m e i from here) = refl
phase_again (is.Between m i) = refl
phase_again (is.Skipping m i) = refl
phase_again (is.Resting m i n) = refl
phase_again (is.Over r p) = refl

pub phase_stands : (set : Settings) (ph : Phase) (at : ℕ) (log : Log) → phase_of (numbers_of set ph at log) ≡ ph
phase_stands set ph at log = ap phase_by (fields_in (flat_of ph).mail set (flat_of ph) at log refl) ∙ phase_again ph

taken_in : (m : Mail) (set : Settings) (f : Flat) (at : ℕ) (log : Log) → taken_of (row_in m set f at log) ≡ at
taken_in Smtp set f at log = refl
taken_in Pop3 set f at log = refl
taken_in (Imap n b) set f at log = refl

pub taken_stands : (set : Settings) (ph : Phase) (at : ℕ) (log : Log) → taken_of (numbers_of set ph at log) ≡ at
taken_stands set ph at log = taken_in (flat_of ph).mail set (flat_of ph) at log

log_in : (m : Mail) (set : Settings) (f : Flat) (at : ℕ) (log : Log) → log_of (row_in m set f at log) ≡ log
log_in Smtp set f at log = refl
log_in Pop3 set f at log = refl
log_in (Imap n b) set f at log = refl

pub log_stands : (set : Settings) (ph : Phase) (at : ℕ) (log : Log) → log_of (numbers_of set ph at log) ≡ log
log_stands set ph at log = log_in (flat_of ph).mail set (flat_of ph) at log

settings_in : (m : Mail) (set : Settings) (f : Flat) (at : ℕ) (log : Log) → settings_of (row_in m set f at log) ≡ set
settings_in Smtp set f at log = rw (bit_again set.strict)
settings_in Pop3 set f at log = rw (bit_again set.strict)
settings_in (Imap n b) set f at log = rw (bit_again set.strict)

pub settings_stand : (set : Settings) (ph : Phase) (at : ℕ) (log : Log) → settings_of (numbers_of set ph at log) ≡ set
settings_stand set ph at log = settings_in (flat_of ph).mail set (flat_of ph) at log
