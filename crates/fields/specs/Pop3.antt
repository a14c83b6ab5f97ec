-- What a line of a POP3 server says: document 01, 'POP3 server'. Ports the line tests of pop3.rs.
-- Assumes nothing.
use Rattle.std.specs.Prelude.{Bool, ◌&&◌, List, ℕ, leb, ltb, length, take, drop}
use Rattle.classes.specs.Classes.{is_pop_white, is_digit}
use Rattle.reading.specs.Bytes.{starts_with, raised, contains}
use Rattle.reading.specs.Text.{text}
use Rattle.fields.specs.Runs.{lead, worth}

abbrev pub ok_word : List ℕ
ok_word = text "+OK"

abbrev pub after_ok : List ℕ → List ℕ
after_ok l = drop (length ok_word) l

-- it begins +OK and what follows holds "tls" in any case
unfoldable pub stls_answer : List ℕ → Bool
stls_answer l = starts_with ok_word l && contains (raised (text "tls")) (raised (after_ok l))

-- digits worth at most 4,294,967,295
unfoldable pub octets : List ℕ → Bool
octets l = leb (worth l) 4294967295

-- behind the number: pop white, octets (more may follow)
unfoldable pub octets_follow : List ℕ → Bool
octets_follow l = ltb 0 (lead is_pop_white l) && starts_with (text "octets") (drop (lead is_pop_white l) l)

-- a number and what follows it
unfoldable pub numbered : List ℕ → Bool
numbered l = ltb 0 (lead is_digit l) && (octets (take (lead is_digit l) l) && octets_follow (drop (lead is_digit l) l))

-- +OK, pop white, one or more digits worth at most 4,294,967,295, pop white (each time one or more), octets
unfoldable pub retr_answer : List ℕ → Bool
retr_answer l = starts_with ok_word l && (ltb 0 (lead is_pop_white (after_ok l)) && numbered (drop (lead is_pop_white (after_ok l)) (after_ok l)))
