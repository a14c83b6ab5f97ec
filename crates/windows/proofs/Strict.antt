-- Whom the strict setting touches: a session whose lines all end in CRLF is answered as without it, however it is cut.
-- Assumes nothing.
use mathlib.Core.Path.{◌≡◌, refl, sym, ap, ◌∙◌}
use mathlib.Core.Bool.{false}
use mathlib.Core.List.{List, flatten}
use Prim.Native.Nat.{ℕ, ◌≤◌}
use lib.ListN.{length}
use Rattle.rules.proofs.Strict.{crlf_same}
use Rattle.rules.specs.Machine.{Ran}
use Rattle.rules.specs.Sessions.{limit, start_of}
use Rattle.rules.specs.Strict.{is_bare, strictly, lax}
use Rattle.rules.specs.declared.Entry.{Entry}
use Rattle.rules.specs.declared.Settings.{Settings}
use Rattle.windows.proofs.Courses.{taking}
use Rattle.windows.proofs.Cut.{settled, cut_anyhow}
use Rattle.windows.specs.Stands.{Stand, fresh, in_preamble, in_content, in_literal, enters, does, asks, InCrlf}
use Rattle.windows.specs.Windows.{tapped, shows_all, lastly}

-- what is no bare line is done with as without the setting
does_same : (set : Settings) (f : Stand) (at : ℕ) (p : List ℕ) → is_bare (asks f) p ≡ false → does set f at p ≡ does lax f at p
unfolding does asks strictly
does_same set (fresh st) at p h = rw h
does_same set (in_preamble m b os from here) at p h = refl
does_same set (in_content m e b os from here) at p h = refl
does_same set (in_literal e from left) at p h = refl

-- the last answer and the table are those of the session without the setting
pub in_crlf : (set : Settings) (e : Entry) (t : List ℕ) (ws : List (List ℕ)) → length (flatten ws) ≤ limit → InCrlf (start_of e) (flatten ws)
    → lastly (shows_all (tapped set (start_of e) t) ws) ≡ lastly (shows_all (tapped lax (start_of e) t) ws)
in_crlf set e t ws within h =
    cut_anyhow set e t ws within
    ∙ ap (λ (o : Ran Stand). settled t o) (crlf_same asks (does lax) (does set) taking (does_same set) (enters (start_of e) 0) 0 (flatten ws) h)
    ∙ sym (cut_anyhow lax e t ws within)
