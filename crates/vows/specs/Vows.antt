-- What the promises by windows speak of: a session begun by `begin` and shown window upon window by `show`, whatever exits of the two meet their contracts.
-- Assumes nothing.
use Rattle.std.specs.Prelude.{List, [], ◌∷◌, ◌++◌, ℕ, drop}
use Rattle.events.specs.Table.{final_of}
use Rattle.events.specs.declared.Event.{Event}
use Rattle.promises.specs.Promises.{Exit}
use Rattle.rules.specs.Sessions.{start_of}
use Rattle.rules.specs.declared.Entry.{Entry}
use Rattle.rules.specs.declared.Settings.{Settings}
use Rattle.tap.specs.Tapping.{record_of, Begun, Shows}
use Rattle.tap.specs.declared.Session.{Session}
use Rattle.tap.specs.declared.Shown.{Shown}
use Rattle.windows.specs.Stands.{enters, pieces}
use Rattle.windows.specs.Traces.{Answered}
use Rattle.windows.specs.Windows.{Tap}

-- a call's exit of `show`: what it gives back, and the table then
pub record Call : Type 0 where
  pub gives : Shown
  pub table : List ℕ

-- the same, as an entry's exit that is called once
abbrev pub exit_of : Call → Exit
exit_of c = record { table = c.table; answer = c.gives.answer }

-- what the caller sees of it: the answer, with the table, and how many bytes were taken
abbrev pub answered_of : Call → Answered
answered_of c = record { answer = final_of c.table c.gives.answer; took = c.gives.taken }

-- between windows the caller has the session, the table, and the bytes shown that were not taken
pub record Tapped : Type 0 where
  pub session : Session
  pub table : List ℕ
  pub untaken : List ℕ

-- the definition's view of it
abbrev pub tap_of : Tapped → Tap
tap_of x = record { settings = x.session.settings; session = record_of x.session; table = x.table; untaken = x.untaken }

-- the window that is shown: untaken bytes at its front, the new ones w behind them
abbrev pub window_of : Tapped → List ℕ → List ℕ
window_of x w = x.untaken ++ w

-- after the call that showed it
abbrev pub after : Tapped → List ℕ → Call → Tapped
after x w c = record { session = c.gives.session; table = c.table; untaken = drop c.gives.taken (window_of x w) }

-- calls of `show` one after another, from x to y: the new bytes of each window, and the exits, each of which meets the contract
pub data Calls : Tapped → List (List ℕ) → List Call → Tapped → Type 0 where
  none : {x : Tapped} → Calls x [] [] x
  call : {x y : Tapped} {ws : List (List ℕ)} {cs : List Call} (w : List ℕ) (c : Call)
      → Shows x.session (window_of x w) x.table c.gives c.table → Calls (after x w c) ws cs y → Calls x (w ∷ ws) (c ∷ cs) y

-- a run of the code: a session of entry e with these settings is begun, the table being t; the windows bring the bytes ws; cs are the exits, and x is what there is at the end
pub record Run (set : Settings) (e : Entry) (t : List ℕ) (ws : List (List ℕ)) (cs : List Call) (x : Tapped) : Type 0 where
  pub session : Session
  pub begun : Begun set e session
  pub calls : Calls (record { session = session; table = t; untaken = [] }) ws cs x

-- a run, whatever there is at its end
pub record Runs (set : Settings) (e : Entry) (t : List ℕ) (ws : List (List ℕ)) (cs : List Call) : Type 0 where
  pub end : Tapped
  pub run : Run set e t ws cs end

-- c is the last of the exits
pub data Last (c : Call) : List Call → Type 0 where
  lone : Last c (c ∷ [])
  later : {d : Call} {cs : List Call} → Last c cs → Last c (d ∷ cs)

-- all events that windows list of a session, whatever table there is
unfoldable pub window_events : Settings → Entry → List ℕ → List Event
window_events set e s = (pieces set (enters (start_of e) 0) 0 s).events
