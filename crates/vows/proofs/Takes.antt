-- One call of `show`, whatever exit of it meets the contract: what it takes, what is repeated, the limit, and that the contract leaves nothing open.
-- Assumes nothing.
use mathlib.Core.Path.{◌≡◌, refl, sym, ap, ◌∙◌}
use mathlib.Core.Bool.{Bool, true, false}
use mathlib.Core.List.{List, []}
use Prim.Native.Nat.{ℕ, ◌+◌, ◌≤◌, ◌<◌}
use lib.ListN.{length, drop}
use borrow.Author.Tests.{ne_eqb}
use Rattle.events.specs.Events.{result_number}
use Rattle.events.specs.Table.{Final, final, final_of}
use Rattle.events.specs.declared.Answer.{Answer}
use Rattle.events.specs.declared.Encoding.{Encoding}
use Rattle.events.specs.declared.Outcome.TheVariants.{TooLong}
use Rattle.reading.proofs.Places.{by_test}
use Rattle.reading.specs.Reading.{a_line, short, fetch}
use Rattle.rules.specs.Phases.{Phase, reads, ends, wants}
use Rattle.rules.specs.Sessions.{limit, result_of}
use Rattle.rules.specs.declared.Mail.{Mail}
use Rattle.tap.specs.Tapping.{record_of, is_sound, Read, Unread, Shows}
use Rattle.tap.specs.declared.Session.{Session}
use Rattle.tap.specs.declared.Shown.{Shown}
use Rattle.windows.proofs.Taken as takes
use Rattle.windows.specs.Stands.{Stand, fresh, in_preamble, in_content, in_literal, takes as piece, stand_result}
use Rattle.windows.specs.Windows as windows
use Rattle.windows.specs.Windows.{Record, said, over, keeps, window, taken}

-- the two sides of the contract
pub read : (s : Session) (w t : List ℕ) (r : Shown) (u : List ℕ) → is_sound s ≡ true → Shows s w t r u → Read s w t r u
read s w t r u ok h = rw ok at h

pub unread : (s : Session) (w t : List ℕ) (r : Shown) (u : List ℕ) → is_sound s ≡ false → Shows s w t r u → Unread s t r u
unread s w t r u none h = rw none at h

-- a result that is neither done nor incomplete is a refusal
refuses : (f : Stand) → (result_number (stand_result f) ≡ 0 → ⊥) → (result_number (stand_result f) ≡ 1 → ⊥) → keeps f ≡ false
unfolding stand_result result_of keeps over
refuses (fresh (reads ph)) d n = absurd (n refl)
refuses (fresh (ends o p)) d n = ne_eqb (result_number o) 0 d
refuses (in_preamble m b os from here) d n = absurd (n refl)
refuses (in_content m e b os from here) d n = absurd (n refl)
refuses (in_literal e from left) d n = absurd (n refl)

answer_in : Final → Answer
answer_in f = record { result = f.result; place = f.place; count = f.count }

-- ---- a window w shown to a session s, the table being t: r is given back, and the table is u then
module _ (s : Session) (w t : List ℕ) (r : Shown) (u : List ℕ) (ok : is_sound s ≡ true) (meets : Shows s w t r u) where
  abbrev d : Read s w t r u
  d = read s w t r u ok meets

  abbrev came : windows.Shown
  came = window s.settings (record_of s) t w

  next_is : record_of r.session ≡ came.next
  next_is = ap (λ (g : windows.Shown). g.next) d.is

  stand_is : (record_of r.session).stand ≡ came.next.stand
  stand_is = ap (λ (x : Record). x.stand) next_is

  says : final_of u r.answer ≡ said came.next came.table
  says = d.answer ∙ ap (λ (g : windows.Shown). said g.next g.table) d.is

  -- it takes no more than it is shown
  pub takes_within : r.taken ≤ length w
  takes_within = rw d.taken (takes.within s.settings (record_of s) t w)

  -- and the session's position moves by what is taken
  pub moves : r.session.at ≡ s.at + r.taken
  moves = ap (λ (x : Record). x.at) next_is ∙ takes.moved s.settings (record_of s) t w ∙ ap (λ (n : ℕ). s.at + n) (sym d.taken)

  -- after done or a refusal nothing is taken or written, the session stays, and so does what it answers
  pub repeats : over (record_of s).stand ≡ true
      → (r.taken ≡ 0) × (u ≡ t) × (record_of r.session ≡ record_of s) × (final_of u r.answer ≡ said (record_of s) t)
  repeats h =
      let g = takes.repeats s.settings (record_of s) t w h in (
        d.taken ∙ g.1,
        ap (λ (x : windows.Shown). x.table) (d.is ∙ g.0),
        ap (λ (x : windows.Shown). x.next) (d.is ∙ g.0),
        says ∙ ap (λ (x : windows.Shown). said x.next x.table) g.0,
      )

  -- past the session's limit: 2, place 0, the count kept; nothing is taken
  pub past_limit : over (record_of s).stand ≡ false → limit < s.at + length w → (final_of u r.answer ≡ final t TooLong 0 s.log.count) × (r.taken ≡ 0)
  past_limit h l = let g = takes.past_limit s.settings (record_of s) t w h l in (says ∙ g.0, d.taken ∙ g.1)

  -- a refusal takes nothing
  pub refusal_takes_nothing : (result_number r.answer.result ≡ 0 → ⊥) → (result_number r.answer.result ≡ 1 → ⊥) → r.taken ≡ 0
  unfolding said
  refusal_takes_nothing done more =
      let e : r.answer.result ≡ stand_result came.next.stand = ap (λ (f : Final). f.result) says in
      d.taken ∙ takes.refusal_takes_nothing s.settings (record_of s) t w (refuses came.next.stand (rw e at done) (rw e at more))

  -- done takes up to its place
  pub done_takes_to_its_place : over (record_of s).stand ≡ false → result_number r.answer.result ≡ 0 → r.answer.place ≡ s.at + r.taken
  done_takes_to_its_place h z =
      let e : r.answer.result ≡ (said came.next came.table).result = ap (λ (f : Final). f.result) says in
      ap (λ (f : Final). f.place) says ∙ takes.done_takes_to_its_place s.settings (record_of s) t w h (rw e at z)
      ∙ ap (λ (x : Record). x.at) (sym next_is) ∙ moves

  -- a session that goes on has taken all before the unfinished read: what is left does not hold the next piece
  pub unfinished : over (record_of r.session).stand ≡ false → piece (record_of r.session).stand (drop r.taken w) ≡ short
  unfinished h = rw (d.taken, stand_is) (takes.unfinished s.settings (record_of s) t w (rw stand_is at h))

  -- a read that begins waits for more than is left, and the answer's place is where it begins
  pub unfinished_read : (ph : Phase) → (record_of r.session).stand ≡ fresh (reads ph)
      → (fetch (wants ph) (drop r.taken w) ≡ short) × (r.answer.place ≡ s.at + r.taken)
  unfinished_read ph e =
      let g = takes.unfinished_read s.settings (record_of s) t w ph (sym stand_is ∙ e) in
      (rw d.taken g.0, ap (λ (f : Final). f.place) says ∙ g.1 ∙ ap (λ (x : Record). x.at) (sym next_is) ∙ moves)

  -- of a sized body every byte shown is taken
  pub unfinished_literal : (e : Encoding) (from left : ℕ) → (record_of r.session).stand ≡ in_literal e from left → drop r.taken w ≡ []
  unfinished_literal e from left h = rw d.taken (takes.unfinished_literal s.settings (record_of s) t w e from left (sym stand_is ∙ h))

  -- of a preamble or a content every finished line is taken
  pub unfinished_preamble : (m : Mail) (b : List ℕ) (os : List (List ℕ)) (from : ℕ) (here : Bool) → (record_of r.session).stand ≡ in_preamble m b os from here
      → fetch a_line (drop r.taken w) ≡ short
  unfinished_preamble m b os from here h = rw d.taken (takes.unfinished_preamble s.settings (record_of s) t w m b os from here (sym stand_is ∙ h))

  pub unfinished_content : (m : Mail) (e : Encoding) (b : List ℕ) (os : List (List ℕ)) (from : ℕ) (here : Bool)
      → (record_of r.session).stand ≡ in_content m e b os from here → fetch a_line (drop r.taken w) ≡ short
  unfinished_content m e b os from here h = rw d.taken (takes.unfinished_content s.settings (record_of s) t w m e b os from here (sym stand_is ∙ h))

-- ---- after an end the answer is repeated: r was given back, the session being over then, and q after it, whatever window is shown
pub answer_repeated : (s : Session) (w v t u y : List ℕ) (r q : Shown) → is_sound s ≡ true → Shows s w t r u → over (record_of r.session).stand ≡ true
    → Shows r.session v u q y → (q.answer ≡ r.answer) × (y ≡ u) × (q.taken ≡ 0)
unfolding answer_in
answer_repeated s w v t u y r q ok h o g =
    let d = read s w t r u ok h in
    let a = repeats r.session v u q y d.sound g o in
    (ap answer_in (a.3 ∙ sym d.answer), a.1, a.0)

-- ---- a record that is no session's is answered 20, place 0, count 0; nothing is taken or written, and the record stays
pub no_session : (s : Session) (w t : List ℕ) (r : Shown) (u : List ℕ) → is_sound s ≡ false → Shows s w t r u
    → (result_number r.answer.result ≡ 20) × (r.answer.place ≡ 0) × (r.answer.count ≡ 0) × (r.taken ≡ 0) × (r.session ≡ s) × (u ≡ t)
no_session s w t r u none h =
    let d = unread s w t r u none h in
    (rw d.is refl, rw d.is refl, rw d.is refl, rw d.is refl, rw d.is refl, d.table)

-- ---- two exits that meet the contract agree in all that the caller sees, and in the record and the settings that later windows depend on
pub determined : (s : Session) (w t : List ℕ) (r q : Shown) (u v : List ℕ) → Shows s w t r u → Shows s w t q v
    → (u ≡ v) × (r.answer ≡ q.answer) × (r.taken ≡ q.taken) × (record_of r.session ≡ record_of q.session)
    × (r.session.settings ≡ q.session.settings)
unfolding answer_in
determined s w t r q u v h g =
    by_test (is_sound s)
    (λ ok.
    let a = read s w t r u ok h in
    let b = read s w t q v ok g in
    let e = a.is ∙ sym b.is in (
      ap (λ (x : windows.Shown). x.table) e,
      ap answer_in (a.answer ∙ ap (λ (x : windows.Shown). said x.next x.table) e ∙ sym b.answer),
      a.taken ∙ sym b.taken,
      ap (λ (x : windows.Shown). x.next) e,
      a.settings ∙ sym b.settings,
    ))
    (λ none.
    let a = unread s w t r u none h in
    let b = unread s w t q v none g in
    let e = a.is ∙ sym b.is in (
      a.table ∙ sym b.table,
      ap (λ (x : Shown). x.answer) e,
      ap (λ (x : Shown). x.taken) e,
      ap (λ (x : Shown). record_of x.session) e,
      ap (λ (x : Shown). x.session.settings) e,
    ))
