-- What reads and events answer, whoever asks.
-- Assumes nothing.
use Rattle.std.specs.Prelude.{◌≡◌, false, List, ℕ, ◌+◌, ◌-◌, ◌≤◌, ◌<◌, length, drop, None, Result, Ok, Err}
use Rattle.events.specs.Table.{Final, final, all, full, pour}
use Rattle.events.specs.declared.Event.{Event}
use Rattle.events.specs.declared.Log.{Log}
use Rattle.events.specs.declared.Outcome.{Outcome}
use Rattle.events.specs.declared.Outcome.TheVariants.{Incomplete, TableFull}
use Rattle.fields.specs.Common.{part}
use Rattle.reading.specs.Bytes.{same}
use Rattle.reading.specs.Reading.{Need, a_line, two, crlf, clean, reach, got, fetch}
use Rattle.rules.specs.Mail.{hyphens}
use Rattle.rules.specs.declared.Mail.{Mail}
use Rattle.rules.specs.declared.Mail.TheVariants.{Imap}
use Rattle.reads.specs.declared.CleanLine.{CleanLine}
use Rattle.reads.specs.declared.Stop.{Stop}
use Rattle.reads.specs.declared.Two.{Two}
use Rattle.reads.specs.declared.Two.TheVariants as pair

-- ---- reads

-- a read at i takes what lies up to j
pub record Ends (nd : Need) (s : List ℕ) (i j : ℕ) : Type 0 where
  pub on : i < j
  pub within : j ≤ length s
  pub long : length (part s i j) ≡ j - i
  pub is : fetch nd (drop i s) ≡ got (part s i j) (drop j s)

-- a read at i needs bytes beyond the end
pub record Stops (nd : Need) (s : List ℕ) (i : ℕ) (o : Outcome) : Type 0 where
  pub short : reach nd (drop i s) ≡ None
  pub is : o ≡ Incomplete

abbrev pub ReadIs : Need → List ℕ → ℕ → Result ℕ Outcome → Type 0
ReadIs nd s i (Ok j) = Ends nd s i j
ReadIs nd s i (Err o) = Stops nd s i o

-- a line from i up to j, whose clean part ends at `end`
pub record Cleaned (s : List ℕ) (i end j : ℕ) : Type 0 where
  pub ends : Ends a_line s i j
  pub from : i ≤ end
  pub within : end ≤ j
  pub is : part s i end ≡ clean (part s i j)

abbrev pub CleanIs : List ℕ → ℕ → Result CleanLine Outcome → Type 0
CleanIs s i (Ok l) = Cleaned s i l.clean l.end
CleanIs s i (Err o) = Stops a_line s i o

pub record Pair (s : List ℕ) (i : ℕ) (l : List ℕ) : Type 0 where
  pub ends : Ends two s i (i + 2)
  pub is : part s i (i + 2) ≡ l

pub record NoPair (s : List ℕ) (i : ℕ) : Type 0 where
  pub ends : Ends two s i (i + 2)
  pub no_crlf : same crlf (part s i (i + 2)) ≡ false
  pub no_hyphens : same hyphens (part s i (i + 2)) ≡ false

abbrev pub TwoIs : List ℕ → ℕ → Result Two Outcome → Type 0
TwoIs s i (Ok pair.Crlf) = Pair s i crlf
TwoIs s i (Ok pair.Hyphens) = Pair s i hyphens
TwoIs s i (Ok pair.Other) = NoPair s i
TwoIs s i (Err o) = Stops two s i o

-- ---- events

-- a stop with this result and place, and what the writer knows
pub record Stopped (o : Outcome) (p : ℕ) (known : Log) (a : Stop) : Type 0 where
  pub result : a.result ≡ o
  pub place : a.place ≡ p
  pub log : a.log ≡ known

-- what a session that stops so comes to
abbrev pub final_at : List ℕ → Stop → Final
final_at u a = final u a.result a.place a.log.count

-- events go to the table: all of them; or one finds no slot, which is refusal 10 at its offset
pub record Full (t : List ℕ) (log : Log) (es : List Event) (a : Stop) (u : List ℕ) : Type 0 where
  pub result : a.result ≡ TableFull
  pub is : pour es t log ≡ full u a.place a.log

pub record Written (t : List ℕ) (log : Log) (es : List Event) (next : Log) (u : List ℕ) : Type 0 where
  pub is : pour es t log ≡ all u next

abbrev pub Notes : List ℕ → Log → List Event → Result Log Stop → List ℕ → Type 0
Notes t log es (Ok next) u = Written t log es next u
Notes t log es (Err a) u = Full t log es a u

-- ---- mails

-- an IMAP mail's header begins at `to` or before
pub record Begins (m : Mail) (to : ℕ) : Type 0 where
  pub is : (size start : ℕ) → m ≡ Imap size start → start ≤ to
