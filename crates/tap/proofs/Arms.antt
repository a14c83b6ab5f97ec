-- The arm of a match that names no case: a phase that is none of those that the other arms name.
-- Assumes nothing.
use mathlib.Core.Path.{◌≡◌, refl}
use mathlib.Core.Bool.{Bool, true, false}
use mathlib.Core.List.{List}
use Prim.Native.Nat.{ℕ}
use Rattle.events.specs.Table.{final}
use Rattle.events.specs.declared.Encoding.{Encoding}
use Rattle.events.specs.declared.Log.{Log}
use Rattle.events.specs.declared.Outcome.{Outcome}
use Rattle.events.specs.declared.Outcome.TheVariants.{Incomplete}
use Rattle.phases.specs.Phasing.{state_of}
use Rattle.phases.specs.declared.Heard.{Heard}
use Rattle.phases.specs.declared.Phase.{Phase}
use Rattle.phases.specs.declared.Phase.TheVariants as is
use Rattle.rules.specs.Sessions.{result_of, place_of}
use Rattle.rules.specs.declared.Mail.{Mail}
use Rattle.rules.specs.declared.Mail.TheVariants.{Smtp, Pop3, Imap}
use Rattle.windows.specs.Stands.{stand_result, stand_place}
use Rattle.windows.specs.Windows.{over, said}
use Rattle.tap.specs.Tapping.{begun_by, fits_by}

-- ---- phases that are not over
pub reads_on : (ph : Phase) → ((r : Outcome) (p : ℕ) → ph ≡ is.Over r p → ⊥) → (k : List ℕ) → false ≡ over (state_of k ph)
unfolding state_of over
reads_on is.Hello h k = refl
reads_on is.Second h k = refl
reads_on is.User h k = refl
reads_on is.Password h k = refl
reads_on is.Sender h k = refl
reads_on is.Seeking h k = refl
reads_on is.Recipient h k = refl
reads_on is.Reply h k = refl
reads_on is.Status h k = refl
reads_on is.Command h k = refl
reads_on (is.Offered size) h k = refl
reads_on is.Closing h k = refl
reads_on (is.Head m x i) h k = refl
reads_on (is.Text m e) h k = refl
reads_on (is.Literal e from left) h k = refl
reads_on (is.Preamble m i from here) h k = refl
reads_on (is.Opened m i) h k = refl
reads_on (is.Content m e i from here) h k = refl
reads_on (is.Between m i) h k = refl
reads_on (is.Skipping m i) h k = refl
reads_on (is.Resting m i n) h k = refl
reads_on (is.Over r p) h k = absurd (h r p refl)

-- ---- and of those, the ones whose read is taken whole: incomplete where it begins
pub waits_here : (ph : Phase)
    → ((e : Encoding) (from left : ℕ) → ph ≡ is.Literal e from left → ⊥)
    → ((m : Mail) (i from : ℕ) (here : Bool) → ph ≡ is.Preamble m i from here → ⊥)
    → ((m : Mail) (e : Encoding) (i from : ℕ) (here : Bool) → ph ≡ is.Content m e i from here → ⊥)
    → ((r : Outcome) (p : ℕ) → ph ≡ is.Over r p → ⊥)
    → (at : ℕ) (log : Log) (k u : List ℕ) → final u Incomplete at log.count ≡ said (record { stand = state_of k ph; at = at; log = log }) u
unfolding state_of said stand_result stand_place result_of place_of
waits_here is.Hello hl hp hc ho at log k u = refl
waits_here is.Second hl hp hc ho at log k u = refl
waits_here is.User hl hp hc ho at log k u = refl
waits_here is.Password hl hp hc ho at log k u = refl
waits_here is.Sender hl hp hc ho at log k u = refl
waits_here is.Seeking hl hp hc ho at log k u = refl
waits_here is.Recipient hl hp hc ho at log k u = refl
waits_here is.Reply hl hp hc ho at log k u = refl
waits_here is.Status hl hp hc ho at log k u = refl
waits_here is.Command hl hp hc ho at log k u = refl
waits_here (is.Offered size) hl hp hc ho at log k u = refl
waits_here is.Closing hl hp hc ho at log k u = refl
waits_here (is.Head m x i) hl hp hc ho at log k u = refl
waits_here (is.Text m e) hl hp hc ho at log k u = refl
waits_here (is.Literal e from left) hl hp hc ho at log k u = absurd (hl e from left refl)
waits_here (is.Preamble m i from here) hl hp hc ho at log k u = absurd (hp m i from here refl)
waits_here (is.Opened m i) hl hp hc ho at log k u = refl
waits_here (is.Content m e i from here) hl hp hc ho at log k u = absurd (hc m e i from here refl)
waits_here (is.Between m i) hl hp hc ho at log k u = refl
waits_here (is.Skipping m i) hl hp hc ho at log k u = refl
waits_here (is.Resting m i n) hl hp hc ho at log k u = refl
waits_here (is.Over r p) hl hp hc ho at log k u = absurd (ho r p refl)

-- ---- phases that hold no number
pub holds_none : (ph : Phase)
    → ((m : Mail) (x : Heard) (i : ℕ) → ph ≡ is.Head m x i → ⊥)
    → ((e : Encoding) (from left : ℕ) → ph ≡ is.Literal e from left → ⊥)
    → ((m : Mail) (i from : ℕ) (here : Bool) → ph ≡ is.Preamble m i from here → ⊥)
    → ((m : Mail) (i : ℕ) → ph ≡ is.Opened m i → ⊥)
    → ((m : Mail) (e : Encoding) (i from : ℕ) (here : Bool) → ph ≡ is.Content m e i from here → ⊥)
    → ((m : Mail) (i : ℕ) → ph ≡ is.Between m i → ⊥)
    → ((m : Mail) (i : ℕ) → ph ≡ is.Skipping m i → ⊥)
    → ((m : Mail) (i n : ℕ) → ph ≡ is.Resting m i n → ⊥)
    → (at : ℕ) → true ≡ fits_by ph at
unfolding fits_by
holds_none is.Hello h0 h1 h2 h3 h4 h5 h6 h7 at = refl
holds_none is.Second h0 h1 h2 h3 h4 h5 h6 h7 at = refl
holds_none is.User h0 h1 h2 h3 h4 h5 h6 h7 at = refl
holds_none is.Password h0 h1 h2 h3 h4 h5 h6 h7 at = refl
holds_none is.Sender h0 h1 h2 h3 h4 h5 h6 h7 at = refl
holds_none is.Seeking h0 h1 h2 h3 h4 h5 h6 h7 at = refl
holds_none is.Recipient h0 h1 h2 h3 h4 h5 h6 h7 at = refl
holds_none is.Reply h0 h1 h2 h3 h4 h5 h6 h7 at = refl
holds_none is.Status h0 h1 h2 h3 h4 h5 h6 h7 at = refl
holds_none is.Command h0 h1 h2 h3 h4 h5 h6 h7 at = refl
holds_none (is.Offered size) h0 h1 h2 h3 h4 h5 h6 h7 at = refl
holds_none is.Closing h0 h1 h2 h3 h4 h5 h6 h7 at = refl
holds_none (is.Head m x i) h0 h1 h2 h3 h4 h5 h6 h7 at = absurd (h0 m x i refl)
holds_none (is.Text m e) h0 h1 h2 h3 h4 h5 h6 h7 at = refl
holds_none (is.Literal e from left) h0 h1 h2 h3 h4 h5 h6 h7 at = absurd (h1 e from left refl)
holds_none (is.Preamble m i from here) h0 h1 h2 h3 h4 h5 h6 h7 at = absurd (h2 m i from here refl)
holds_none (is.Opened m i) h0 h1 h2 h3 h4 h5 h6 h7 at = absurd (h3 m i refl)
holds_none (is.Content m e i from here) h0 h1 h2 h3 h4 h5 h6 h7 at = absurd (h4 m e i from here refl)
holds_none (is.Between m i) h0 h1 h2 h3 h4 h5 h6 h7 at = absurd (h5 m i refl)
holds_none (is.Skipping m i) h0 h1 h2 h3 h4 h5 h6 h7 at = absurd (h6 m i refl)
holds_none (is.Resting m i n) h0 h1 h2 h3 h4 h5 h6 h7 at = absurd (h7 m i n refl)
holds_none (is.Over r p) h0 h1 h2 h3 h4 h5 h6 h7 at = refl

-- ---- mails without a literal
pub no_literal : (m : Mail) → ((size start : ℕ) → m ≡ Imap size start → ⊥) → (at : ℕ) → true ≡ begun_by m at
unfolding begun_by
no_literal Smtp h at = refl
no_literal Pop3 h at = refl
no_literal (Imap size start) h at = absurd (h size start refl)
