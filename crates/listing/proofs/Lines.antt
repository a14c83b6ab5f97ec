-- Lines are their numbers, put one behind the other; a listing is its lines.
-- Assumes nothing.
use mathlib.Core.Path.{◌≡◌}
use mathlib.Core.List.{List, [], ◌∷◌}
use Prim.Native.Nat.{ℕ, zero, suc, ◌+◌, ◌*◌, ◌≤◌, ◌<◌}
use native.Mathlib.Numerals.{add-one}
use native.Mathlib.Omega.{arith}
use lib.ListN.{length, length-append}
use Rattle.events.specs.Events.{numbers, result_number}
use Rattle.events.specs.Table.{Final, event_at}
use Rattle.listing.specs.Listing.{Pasted, word, line, event_lines, listing}
use Rattle.listing.proofs.Pasted.{pasted_none, pasted_on, room_on}
use Rattle.listing.proofs.Spelled.{word_length}

module _ {o u : List ℕ} {at r : ℕ} (a b : ℕ) (p : Pasted o at (word a b) r u) where
  pub word_room : (n : ℕ) → at + (21 + n) ≤ length o → r + n ≤ length u
  word_room n h = room_on p 21 n (word_length a b) h

pub line_last : {o u : List ℕ} {at r : ℕ} (a : ℕ) → Pasted o at (word a 10) r u → Pasted o at (line (a ∷ [])) r u
unfolding line
line_last a p = p

pub line_on : {o u v : List ℕ} {at r e : ℕ} (a b : ℕ) (ns : List ℕ) → at + 21 ≤ length o
    → Pasted o at (word a 32) r u → Pasted u r (line (b ∷ ns)) e v → Pasted o at (line (a ∷ b ∷ ns)) e v
unfolding line
line_on a b ns h p q = pasted_on p (omega arith) q

line_length : (ns : List ℕ) → length (line ns) ≤ 21 * length ns
unfolding line
line_length [] = omega arith
line_length (n ∷ []) = omega (arith, word_length n 10)
line_length (n ∷ m ∷ ns) = omega (arith, length-append (word n 32) (line (m ∷ ns)), word_length n 32, line_length (m ∷ ns))

event_length : (i : ℕ) (t : List ℕ) → length (line (numbers (event_at t i))) ≤ 84
unfolding event_at
event_length i t = line_length _

lines_length : (n : ℕ) (t : List ℕ) → length (event_lines n t) ≤ 84 * n
unfolding event_lines
lines_length zero t = omega arith
lines_length (suc n) t = omega (arith, length-append (event_lines n t) (line (numbers (event_at t n))), lines_length n t, event_length n t)

-- the lines of i events stand behind the first `at` bytes
pub record Lined (o : List ℕ) (at : ℕ) (t : List ℕ) (n i e : ℕ) (u : List ℕ) : Type 0 where
  pub part : i ≤ n
  pub puts : Pasted o at (event_lines i t) e u
  pub room : at + 84 * n ≤ length o

pub lined_none_yet : {o t : List ℕ} {at n : ℕ} → at + 84 * n ≤ length o → Lined o at t n 0 at o
unfolding event_lines
lined_none_yet {o} {t} {at} h = record { part = omega arith; puts = pasted_none o at; room = h }

module _ {o t u : List ℕ} {at n i e : ℕ} (l : Lined o at t n i e u) where
  pub lined_room : i < n → e + 84 ≤ length u
  lined_room h = room_on l.puts (84 * i) 84 (lines_length i t) (omega (arith, l.room))

  pub lined_on : {r : ℕ} {v : List ℕ} → i < n → Pasted u e (line (numbers (event_at t i))) r v → Lined o at t n (i + 1) r v
  unfolding event_lines
  lined_on h p = record { part = omega arith; puts = rw (add-one i) (pasted_on l.puts (omega (arith, l.room)) p); room = l.room }

  pub lined_all : n ≤ i → Pasted o at (event_lines n t) e u
  lined_all h = let s : i ≡ n = omega (arith, l.part) in rw s at l.puts

pub lines_room : {o u : List ℕ} {at r : ℕ} (n : ℕ) (t : List ℕ) → Pasted o at (event_lines n t) r u → at + 84 * n + 63 ≤ length o → r + 63 ≤ length u
lines_room n t p h = room_on p (84 * n) 63 (lines_length n t) (omega arith)

pub listing_length : (f : Final) → length (listing f) ≤ 84 * f.count + 63
unfolding listing
listing_length f =
    let last : List ℕ = result_number f.result ∷ f.place ∷ f.count ∷ [] in
    omega (arith, length-append (event_lines f.count f.table) (line last), lines_length f.count f.table, line_length last)
