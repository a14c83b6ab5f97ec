-- Events never exceed bytes, by windows too: any list of windows, also past the limit, lists at most as many events as bytes were shown, so that as many slots suffice.
-- Assumes nothing.
use mathlib.Core.Path.{◌≡◌, refl, ap}
use mathlib.Core.Bool.{false}
use mathlib.Core.List.{List, flatten}
use Prim.Native.Nat.{ℕ, ◌+◌, ◌≤◌}
use native.Mathlib.Omega.{arith}
use lib.ListN.{length, length-append}
use borrow.Author.Tests.{eqb-false}
use Rattle.events.proofs.Laws.{pour_count, enough_plain}
use Rattle.events.specs.Events.{result_number}
use Rattle.events.specs.Table.{no_events, all, slots, pour, finish}
use Rattle.events.specs.declared.Event.{Event}
use Rattle.events.specs.declared.Log.{Log}
use Rattle.events.specs.declared.Outcome.TheVariants.{Incomplete}
use Rattle.rules.proofs.Counting.{phase_credit, credit, is_ten, events_bound, run_bounded}
use Rattle.rules.proofs.Strict.{CutShort, alike as same, cut_at, cut_short}
use Rattle.rules.specs.Machine.{Ran}
use Rattle.rules.specs.Phases.{State, reads}
use Rattle.rules.specs.Sessions.{start_of, result_of}
use Rattle.rules.specs.declared.Entry.{Entry}
use Rattle.rules.specs.declared.Entry.TheVariants.{SmtpClient, SmtpServer, Pop3Server, ImapClient}
use Rattle.rules.specs.declared.Settings.{Settings}
use Rattle.windows.proofs.Beyond.{Reached, within, beyond, reached}
use Rattle.windows.proofs.Bridge.{Told, Agrees, alike, longer, bridge}
use Rattle.windows.proofs.Cut.{settled, stands_says, entries}
use Rattle.windows.specs.Stands.{Stand, enter, enters, pieces, stand_result, stand_place}
use Rattle.windows.specs.Windows.{Tap, tapped, shows_all, lastly}

-- ---- taken in pieces, a session lists no more events than at once; and it never ends with 10
fewer : (x y : Told) → Agrees x y → length x.events ≤ length y.events
fewer x y (alike e) = rw e (omega arith)
fewer x y (longer e more g) = omega (arith, ap length g, length-append x.events more)

no_ten : (x y : Told) → Agrees x y → is_ten y.result ≡ false → is_ten x.result ≡ false
unfolding is_ten
no_ten x y (alike e) h = rw e h
no_ten x y (longer e more g) h = rw e

-- nor does one that the strict setting cuts short
fewer_cut : (x y : Ran State) → CutShort x y → length x.events ≤ length y.events
fewer_cut x y (same e) = rw e (omega arith)
fewer_cut x y (cut_at p e more g) = omega (arith, ap length g, length-append x.events more)

no_ten_cut : (x y : Ran State) → CutShort x y → is_ten (result_of y.state) ≡ false → is_ten (result_of x.state) ≡ false
unfolding is_ten result_of
no_ten_cut x y (same e) h = rw e h
no_ten_cut x y (cut_at p e more g) h = rw e

starts_without : (e : Entry) → credit (reads (start_of e)) ≡ 0
unfolding credit phase_credit
starts_without SmtpClient = refl
starts_without SmtpServer = refl
starts_without Pop3Server = refl
starts_without ImapClient = refl

pub events_few : (set : Settings) (e : Entry) (s : List ℕ) → length (pieces set (enters (start_of e) 0) 0 s).events ≤ length s
unfolding enter
events_few set e s =
    omega (
      arith,
      fewer _ _ (bridge set (reads (start_of e)) 0 s),
      fewer_cut _ _ (cut_short set (reads (start_of e)) 0 s),
      events_bound (reads (start_of e)) 0 s,
      starts_without e,
    )

never_ten : (set : Settings) (e : Entry) (s : List ℕ) → is_ten (stand_result (pieces set (enters (start_of e) 0) 0 s).state) ≡ false
unfolding enter is_ten result_of
never_ten set e s =
    no_ten _ _ (bridge set (reads (start_of e)) 0 s) (no_ten_cut _ _ (cut_short set (reads (start_of e)) 0 s) ((run_bounded (reads (start_of e)) 0 s).fine refl))

-- ---- the log counts the events that are poured
pour_counts : (es : List Event) (t u : List ℕ) (log : Log) → pour es t no_events ≡ all u log → log.count ≤ length es
unfolding finish
pour_counts es t u log h = let n = pour_count es t no_events Incomplete 0 in let m : log.count ≤ 0 + length es = rw h at n in omega arith

settled_counts : (t : List ℕ) (o : Ran Stand) → (settled t o).count ≤ length o.events
unfolding settled
settled_counts t o = omega (arith, pour_count o.events t no_events (stand_result o.state) (stand_place o.state o.at))

settled_fine : (t : List ℕ) (o : Ran Stand) → length o.events ≤ slots t → is_ten (stand_result o.state) ≡ false → is_ten (settled t o).result ≡ false
unfolding settled
settled_fine t o h f = rw (enough_plain o.events t (stand_result o.state) (stand_place o.state o.at) h) f

module _ (set : Settings) (e : Entry) (t : List ℕ) (ws : List (List ℕ)) where
  abbrev x : Tap
  x = shows_all (tapped set (start_of e) t) ws

  abbrev Here : Type 0
  Here = Reached set t (enters (start_of e) 0) (entries e).firm (flatten ws) x

  -- the answer's event count is at most the number of bytes shown, however many they are and however they are cut
  pub count_bound : (lastly x).count ≤ length (flatten ws)
  count_bound = by_reached (reached set e t ws)
    where
      by_reached : Here → (lastly x).count ≤ length (flatten ws)
      by_reached (within i) =
          let o = pieces set (enters (start_of e) 0) 0 (flatten ws) in
          rw (stands_says set t o x i) (omega (arith, settled_counts t o, events_few set e (flatten ws)))
      by_reached (beyond seen more m u log p h q) =
          rw q (omega (arith, pour_counts _ t u log p, events_few set e seen, ap length m, length-append seen more))

  -- with a slot for each byte shown, the result is never refusal 10
  pub slots_suffice : length (flatten ws) ≤ slots t → result_number (lastly x).result ≡ 10 → ⊥
  unfolding is_ten
  slots_suffice g = eqb-false (result_number (lastly x).result) 10 (by_reached (reached set e t ws))
    where
      by_reached : Here → is_ten (lastly x).result ≡ false
      by_reached (within i) =
          let o = pieces set (enters (start_of e) 0) 0 (flatten ws) in
          rw (stands_says set t o x i) (settled_fine t o (omega (arith, events_few set e (flatten ws))) (never_ten set e (flatten ws)))
      by_reached (beyond seen more m u log p h q) = rw q refl
