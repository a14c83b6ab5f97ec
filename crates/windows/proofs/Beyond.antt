-- Any list of windows, also past the limit: a tap stands where the bytes shown so far stand, or where those stood that were shown before the limit.
-- Assumes nothing.
use mathlib.Core.Path.{◌≡◌, refl, ap, ◌∙◌}
use mathlib.Core.Bool.{true, false}
use mathlib.Core.List.{List, [], ◌∷◌, ◌++◌, append-nil, append_assoc, flatten}
use Prim.Native.Nat.{ℕ, ◌+◌, ◌≤◌, ◌<◌}
use native.Mathlib.Omega.{arith}
use lib.Dec.{ltb}
use lib.ListN.{length, length-append}
use borrow.Author.Tests.{ltb-true, ltb-false}
use Rattle.events.specs.Table.{final, no_events, all, pour}
use Rattle.events.specs.declared.Log.{Log}
use Rattle.events.specs.declared.Outcome.TheVariants.{TooLong}
use Rattle.reading.proofs.Places.{by_test}
use Rattle.rules.specs.Machine.{Ran}
use Rattle.rules.specs.Sessions.{limit, start_of}
use Rattle.rules.specs.declared.Entry.{Entry}
use Rattle.rules.specs.declared.Settings.{Settings}
use Rattle.windows.proofs.Courses.{taking}
use Rattle.windows.proofs.Cut.{firm, onward, Stands, live, dead, dead_on, stands_dead, stands_on, entries, begun}
use Rattle.windows.proofs.Firm.{Firm}
use Rattle.windows.proofs.Runs as runs
use Rattle.windows.proofs.Taken.{past_limit}
use Rattle.windows.specs.Stands.{Stand, enters, takes, does, pieces}
use Rattle.windows.specs.Windows.{Record, said, over, Tap, tapped, shows, shows_all, lastly}

module _ (set : Settings) where
  -- a run that goes on with more bytes is the run on all of them
  pub on_all : (f : Stand) → Firm f → (s w : List ℕ) → onward set (pieces set f 0 s) w ≡ pieces set f 0 (s ++ w)
  on_all f sound s w = runs.joined Stand takes (does set) taking Firm (firm set) w f 0 s sound

  module _ (t : List ℕ) (f : Stand) (sound : Firm f) where
    -- s is what was shown so far: all of it was read; or the bytes `seen` were, and then a window took the bytes past the limit
    pub data Reached (s : List ℕ) (x : Tap) : Type 0 where
      within : Stands set t (pieces set f 0 s) x → Reached s x
      beyond : (seen more : List ℕ) → s ≡ seen ++ more → (u : List ℕ) (log : Log) → pour (pieces set f 0 seen).events t no_events ≡ all u log
          → over x.session.stand ≡ true → lastly x ≡ final u TooLong 0 log.count → Reached s x

    module _ (s w u : List ℕ) (log : Log) (h : over (pieces set f 0 s).state ≡ false) (p : pour (pieces set f 0 s).events t no_events ≡ all u log) where
      abbrev o : Ran Stand
      o = pieces set f 0 s

      abbrev r : Record
      r = record { stand = o.state; at = o.at; log = log }

      abbrev x : Tap
      x = record { settings = set; session = r; table = u; untaken = o.rest }

      past : limit < o.at + length (o.rest ++ w) → Reached (s ++ w) (shows x w)
      unfolding shows
      past l = let g = past_limit set r u (o.rest ++ w) h l in beyond s w refl u log p g.2 g.0

      before : o.at + length (o.rest ++ w) ≤ limit → Reached (s ++ w) (shows x w)
      before l =
          let j : Stands set t (onward set o w) (shows x w) = stands_on set t o x w (omega (arith, length-append o.rest w)) (live u log h p refl) in
          within (rw (on_all f sound s w) at j)

      live_on : Reached (s ++ w) (shows x w)
      live_on =
          by_test (ltb limit (o.at + length (o.rest ++ w)))
          (λ l. past (ltb-true limit (o.at + length (o.rest ++ w)) l))
          (λ l. before (ltb-false limit (o.at + length (o.rest ++ w)) l))

    pub reached_on : (s : List ℕ) (x : Tap) (w : List ℕ) → Reached s x → Reached (s ++ w) (shows x w)
    unfolding said
    reached_on s x w (within (live u log h p e)) = rw e (live_on s w u log h p)
    reached_on s x w (within (dead h e z)) = let j = stands_dead set t (pieces set f 0 s) x w h e z in within (rw (on_all f sound s w) at j)
    reached_on s x w (beyond seen more m u log p h e) =
        let d = dead_on set t x w h in
        beyond seen (more ++ w) (ap (λ (l : List ℕ). l ++ w) m ∙ append_assoc seen more w) u log p (rw d.0 h) (rw (d.0, d.1) e)

    pub reached_all : (ws : List (List ℕ)) (s : List ℕ) (x : Tap) → Reached s x → Reached (s ++ flatten ws) (shows_all x ws)
    unfolding shows_all flatten
    reached_all [] s x i = rw append-nil i
    reached_all (w ∷ ws) s x i =
        let j = reached_all ws (s ++ w) (shows x w) (reached_on s x w i) in
        rw (append_assoc s w (flatten ws)) at j

  -- where an entry's session stands after any list of windows
  pub reached : (e : Entry) (t : List ℕ) (ws : List (List ℕ))
      → Reached t (enters (start_of e) 0) (entries e).firm (flatten ws) (shows_all (tapped set (start_of e) t) ws)
  reached e t ws =
      reached_all t (enters (start_of e) 0) (entries e).firm ws [] (tapped set (start_of e) t) (within (begun set (start_of e) t (entries e).reads_on))
