-- `tap::show_lent` meets its contract: no session, an end, past the limit, or a window that is read. Assumes nothing.
use mathlib.Core.Path.{◌≡◌, refl, sym, ◌∙◌}
use mathlib.Core.Bool.{true, false}
use Prim.Native.Nat.{◌+◌, ◌≤◌}
use native.Mathlib.Omega.{arith}
use lib.ListN.{length}
use Rattle.phases.specs.Phasing.{state_of}
use Rattle.rules.specs.Sessions.{limit}
use Rattle.windows.specs.Windows.{over}
use Rattle.tap.specs.Tapping.{is_sound, session_with}
use Rattle.tap.proofs.Sounds.{within_limit, sound_ready, shows_over, shows_long, shows_read}
use borrow.Author.Rules.{rules}
use Rattle.tap.proofs.show_lent.Goals.{Else-at-w, Else-is_over, Else-not-sound}
use Rattle.tap.proofs.show_lent.Goals as goal

-- no session
pub returns-then-not-sound : goal.returns-then-not-sound
returns-then-not-sound c = rw (sym c.sound.ensures ∙ c.if-not-sound.true) (record { is = (c.no_session.ensures _ _).is; table = refl })

sound : (c : Else-not-sound) →
    is_sound (let a = c.args in session_with a.settings a.phase a.at a.log a.kept.now) ≡ true
sound c = sym c.sound.ensures ∙ c.if-not-sound.false

-- it has taken no more than the limit
at_most : (c : Else-not-sound) →
    c.args.at ≤ limit
at_most c = within_limit (let a = c.args in session_with a.settings a.phase a.at a.log a.kept.now) (sound c)

-- it is over: the answer is as it was
pub returns-then-is_over : goal.returns-then-is_over
returns-then-is_over c = let s = (let a = c.args in session_with a.settings a.phase a.at a.log a.kept.now) in
    let ok = sound (goal.at.returns-then-is_over c).Else-not-sound in
    rw ok (shows_over s ok (sym (c.is_over.ensures s.boundaries) ∙ c.if-is_over.true) (c.answered.ensures s.settings s.boundaries))

reads_on : (c : Else-is_over) →
    let s = (let a = c.args in session_with a.settings a.phase a.at a.log a.kept.now) in
    over (state_of s.boundaries s.phase) ≡ false
reads_on c = sym (c.is_over.ensures (let a = c.args in session_with a.settings a.phase a.at a.log a.kept.now).boundaries) ∙ c.if-is_over.false

-- past the limit: the session is over
pub returns-then-at-w : goal.returns-then-at-w
returns-then-at-w c = let s = (let a = c.args in session_with a.settings a.phase a.at a.log a.kept.now) in
    let ok = sound (goal.at.returns-then-at-w c).Else-not-sound in
    rw ok (shows_long s ok (reads_on (goal.at.returns-then-at-w c).Else-is_over) (omega (arith, c.if-at-w.true, at_most (goal.at.returns-then-at-w c).Else-not-sound))
    (c.answered-then-at-w.ensures s.settings s.boundaries))

-- ---- a window that is read
fits : (c : Else-at-w) →
    let a = c.args in
    a.at + length a.w.now ≤ limit
fits c =
    let sound : is_sound (let a = c.args in session_with a.settings a.phase a.at a.log a.kept.now) ≡ true = sym c.sound.ensures ∙ c.if-not-sound.false in
    let at_most : c.args.at ≤ limit = within_limit (let a = c.args in session_with a.settings a.phase a.at a.log a.kept.now) sound in
    omega (arith, c.if-at-w.false, at_most)

-- it ends before the limit, and the record is one to go on from
pub advance-spot-requires : goal.advance-spot-requires
advance-spot-requires c = let long : length (let a = c.args in session_with a.settings a.phase a.at a.log a.kept.now).boundaries ≡ 648 = search rules in (
  fits (goal.at.advance-spot-requires c).Else-at-w,
  sound_ready (let a = c.args in session_with a.settings a.phase a.at a.log a.kept.now)
      (sound (goal.at.advance-spot-requires c).Else-not-sound) long,
)

-- the session goes on, or is over
pub returns : goal.returns
returns c = let ok = sound (goal.at.returns c).Else-not-sound in
    rw ok (shows_read (let a = c.args in session_with a.settings a.phase a.at a.log a.kept.now) ok (reads_on (goal.at.returns c).Else-is_over)
    (fits (goal.at.returns c).Else-at-w) c.advance-spot.ensures (c.answered-2.ensures _ _))
