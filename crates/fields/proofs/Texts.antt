-- Tag and trailing white space of a line: where the byte that decides is below 128, characters and bytes say the same.
-- Assumes nothing.
use mathlib.Core.Path.{◌≡◌, refl, sym, ap, ◌∙◌}
use mathlib.Core.Bool.{true, false, not}
use mathlib.Core.List.{List, [], ◌∷◌}
use Prim.Native.Nat.{ℕ, suc, ◌+◌, ◌-◌, ◌≤◌, ◌<◌}
use native.Mathlib.Omega.{arith}
use lib.Dec.{ltb}
use lib.ListN.{length, get_or}
use borrow.Author.Tests.{ltb-true, ltb-false, not-true, not-false}
use Rattle.classes.specs.Classes.{is_white}
use Rattle.reading.proofs.Places.{by_test}
use Rattle.reading.specs.Bytes.{found}
use Rattle.std.specs.Prelude.{Option, Some, None, is_some}
use Rattle.utf8.specs.Utf8.{behind, characters, size, is_utf8, dark_lead, dark_end}
use Rattle.utf8.proofs.Characters.{octets_below}
use Rattle.utf8.proofs.Below.{unlike, space_below, character_below, characters_at, utf8_trails}
use Rattle.utf8.proofs.Walks.{Walked, walked_none_yet, walked_up_to, walked_below, none_past, lead_white, lead_none, utf8_lead_within}
use Rattle.fields.specs.Imap.{tag, is_append, dark, text_end}
use Rattle.fields.specs.Runs.{dark_byte, lead, last_place, through}
use Rattle.fields.proofs.Led.{Led, led_none_yet, led_on, led_stop, led_all, lead_within}
use Rattle.fields.proofs.Last.{last_behind, last_passes, through_within}

pub found_some : (o : Option ℕ) → is_some o ≡ found o
unfolding found
found_some (Some p) = refl
found_some None = refl

-- ---- the tag

tag_either : (l : List ℕ) {n : ℕ} → n ≡ lead dark_byte l → n ≡ dark_lead (characters l) → n ≡ tag l
unfolding tag
tag_either l b t = by_test (is_utf8 l) (λ u. rw u t) (λ u. rw u b)

-- it has come to i, and no byte up to there is white or above 127
pub record Tagged (l : List ℕ) (i : ℕ) : Type 0 where
  pub bytes : Led dark_byte l i
  pub text : Walked dark_lead l i

pub tagged_none_yet : (l : List ℕ) → Tagged l 0
tagged_none_yet l = record { bytes = led_none_yet dark_byte l; text = walked_none_yet dark_lead l }

module _ {l : List ℕ} {i : ℕ} (t : Tagged l i) where
  pub tagged_on : i < length l → get_or l i 0 ≤ 127 → is_white (get_or l i 0) ≡ false → Tagged l (i + 1)
  tagged_on h s w =
      let on = led_on t.bytes h (ap not w) in
      record { bytes = on; text = walked_below t.text h (omega arith) (space_below (get_or l i 0) (omega arith) ∙ w) }

  -- white space ends it
  pub tagged_stop : i < length l → get_or l i 0 ≤ 127 → is_white (get_or l i 0) ≡ true → i ≡ tag l
  tagged_stop h s w =
      let none = ap dark_lead (characters_at l i h (omega arith)) ∙ lead_white _ (space_below (get_or l i 0) (omega arith) ∙ w) _ in
      tag_either l (led_stop t.bytes h (ap not w)) (walked_up_to t.text none)

  -- the line ends it
  pub tagged_all : length l ≤ i → i ≡ tag l
  tagged_all h = tag_either l (led_all t.bytes h) (walked_up_to t.text (lead_none (none_past l i h)))

pub tag_within : (l : List ℕ) → tag l ≤ length l
unfolding tag
tag_within l = by_test (is_utf8 l) (λ u. rw u (utf8_lead_within l u)) (λ u. rw u (lead_within dark_byte l))

-- ---- the end

-- by bytes the line ends with one that is not above 127, or all are white
module _ (l : List ℕ) (u : is_utf8 l ≡ true) (h : let n = through (last_place (dark l) l) in 0 < n → get_or l (n - 1) 0 ≤ 127) where
  abbrev n : ℕ
  n = through (last_place (dark l) l)

  abbrev d : ℕ
  d = dark_end (characters l)

  not_before : d < n → ⊥
  unfolding last_place dark
  not_before g =
      let s : get_or l (n - 1) 0 < 128 = omega (arith, h (omega arith)) in
      let w : is_white (get_or l (n - 1) 0) ≡ false = not-true _ (last_passes (dark l) (length l) (omega arith)) in
      unlike ((utf8_trails l u).white (n - 1) (omega arith) (omega (arith, through_within (dark l) l)) s) w

  not_behind : n < d → ⊥
  unfolding last_place dark
  not_behind g =
      let t = utf8_trails l u in
      unlike (not-false _ (last_behind (dark l) (length l) (d - 1) (omega arith) (omega (arith, t.inside)))) (t.dark (d - 1) (omega arith) (omega arith))

  ascii_end : d ≡ n
  ascii_end =
      by_test (ltb d n) (λ t. absurd (not_before (ltb-true d n t)))
      (λ f. by_test (ltb n d) (λ t. absurd (not_behind (ltb-true n d t))) (λ e. omega (arith, ltb-false d n f, ltb-false n d e)))

-- so says the line's length without trailing white space
pub end_ascii : (l : List ℕ) {n : ℕ} → n ≡ through (last_place (dark l) l) → (0 < n → get_or l (n - 1) 0 ≤ 127) → n ≡ text_end l
unfolding text_end
end_ascii l e h = e ∙ by_test (is_utf8 l) (λ u. rw u (sym (ascii_end l u (rw e at h)))) (λ u. rw u)

pub end_within : (l : List ℕ) → text_end l ≤ length l
unfolding text_end
end_within l = by_test (is_utf8 l) (λ u. rw u (utf8_trails l u).inside) (λ u. rw u (through_within (dark l) l))

-- ---- a line without a byte above 127: tag and end are document 01's
ascii_lead : (l : List ℕ) → ((p : ℕ) → get_or l p 0 ≤ 127) → lead dark_byte l ≡ dark_lead (characters l)
unfolding lead dark_lead
ascii_lead [] h = sym (lead_none (none_past [] 0 (omega arith)))
ascii_lead (b ∷ l) h =
    let s : b < 128 = omega (arith, h 0) in
    let cs = character_below b l s in
    by_test (is_white b)
    (λ w. rw (cs, space_below b s, w))
    (λ w. rw (cs, space_below b s, w, octets_below b s) (ap (λ (n : ℕ). 1 + n) (ascii_lead l (λ p. h (suc p)))))

pub as_before : (l : List ℕ) → ((p : ℕ) → get_or l p 0 ≤ 127) → (tag l ≡ lead dark_byte l) × (text_end l ≡ through (last_place (dark l) l))
as_before l h = (sym (tag_either l refl (ascii_lead l h)), sym (end_ascii l refl (λ _. h _)))

-- an empty line is no append
pub append_none : is_append [] ≡ false
unfolding is_append tag is_utf8 size characters behind dark_lead
append_none = refl
