-- Wrong answers of `entry_of`: none of them meets its contract.
-- Assumes nothing.
use mathlib.Core.Path.{◌≡◌, refl}
use mathlib.Core.Bool.{false}
use mathlib.Core.List.{List, [], ◌∷◌, map}
use Prim.Native.Nat.{ℕ}
use lib.ListN.{replicate}
use Rattle.reading.proofs.Rows.{Row, ◌is-neither◌nor◌, met}
use Rattle.reading.specs.Bytes.{starts_with, same}
use Rattle.rules.specs.declared.Entry.{Entry}
use Rattle.rules.specs.declared.Entry.TheVariants.{SmtpClient, SmtpServer, Pop3Server, ImapClient}
use Rattle.letters.specs.Letters.{entry_of}
use Rattle.std.specs.Prelude.{Option, Some, None}

abbrev entered : Option Entry → List ℕ
entered (Some SmtpClient) = 0 ∷ []
entered (Some SmtpServer) = 1 ∷ []
entered (Some Pop3Server) = 2 ∷ []
entered (Some ImapClient) = 3 ∷ []
entered None = 4 ∷ []

abbrev rows : List Row
rows =
    -- the server for the client; none
    (entered (entry_of 83) is-neither 1 ∷ [] nor 4 ∷ []) ∷
    -- the client for the server; none
    (entered (entry_of 115) is-neither 0 ∷ [] nor 4 ∷ []) ∷
    []

pub wrong_answers : map met rows ≡ replicate 2 false
unfolding entry_of same starts_with
wrong_answers = refl
