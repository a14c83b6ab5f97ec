-- However the bytes are cut into windows, the last answer and the table are those of one call on the whole: request W2.
-- Assumes nothing.
use mathlib.Core.Path.{◌≡◌, refl, sym, ap, ◌∙◌}
use mathlib.Core.Bool.{Bool, true, false, cond}
use mathlib.Core.List.{List, [], ◌∷◌, ◌++◌, append-nil, append_assoc, flatten}
use Prim.Native.Nat.{ℕ, ◌+◌, ◌-◌, ◌≤◌}
use native.Mathlib.Omega.{arith}
use lib.ListN.{length, drop, length-append}
use borrow.Author.Tests.{le-ltb}
use Rattle.events.proofs.Laws.{further, pour_append}
use Rattle.events.specs.Table.{Final, final, no_events, Poured, all, full, pour, finish}
use Rattle.events.specs.declared.Event.{Event}
use Rattle.events.specs.declared.Log.{Log}
use Rattle.events.specs.declared.Outcome.TheVariants.{LongBoundary}
use Rattle.reading.specs.Reading.{reach, parted, fetch}
use Rattle.rules.proofs.Strict.{off}
use Rattle.rules.specs.Machine.{Ran, stay, go, run}
use Rattle.rules.specs.Phases.{Phase, reads, ends, need}
use Rattle.rules.specs.Sessions.{limit, answer, answer_of, settle, start_of, result_of, place_of}
use Rattle.rules.specs.Strict.{session_with}
use Rattle.rules.specs.declared.Entry.{Entry}
use Rattle.rules.specs.declared.Entry.TheVariants.{SmtpClient, SmtpServer, Pop3Server, ImapClient}
use Rattle.rules.specs.declared.Settings.{Settings}
use Rattle.windows.proofs.Bridge.{Told, told, told_stand, Agrees, alike, longer, bridge}
use Rattle.windows.proofs.Courses.{taking, pieces_short}
use Rattle.windows.proofs.Firm.{Firm, FirmState, FirmPhase, does_firm, takes_holds}
use Rattle.windows.proofs.Runs as runs
use Rattle.windows.specs.Stands.{Stand, fresh, in_preamble, in_content, in_literal, enter, enters, takes, does, pieces, stand_result, stand_place}
use Rattle.windows.specs.Windows.{Record, said, over, keeps, refused, landed, lands, window, taken, Tap, tapped, shows, shows_all, lastly}

-- what a session that is taken in pieces comes to, on a table from its front
unfoldable pub settled : List ℕ → Ran Stand → Final
settled t o = finish (pour o.events t no_events) (stand_result o.state) (stand_place o.state o.at)

module _ (set : Settings) where
  pub firm : runs.Holds Stand takes (does set) Firm
  firm = record { holds = takes_holds; keeps = does_firm set }

  abbrev pub onward : Ran Stand → List ℕ → Ran Stand
  onward = runs.onward Stand takes (does set) taking

  -- ---- an end
  pub over_stays : (f : Stand) (at : ℕ) (s : List ℕ) → over f ≡ true → pieces set f at s ≡ stay f at s
  unfolding over takes need fetch reach parted
  over_stays (fresh (reads ph)) at s h = cc
  over_stays (fresh (ends r p)) at s h = pieces_short set (fresh (ends r p)) at s refl
  over_stays (in_preamble m b os from here) at s h = cc
  over_stays (in_content m e b os from here) at s h = cc
  over_stays (in_literal e from n) at s h = cc

  over_place : (f : Stand) (a b : ℕ) → over f ≡ true → stand_place f a ≡ stand_place f b
  unfolding over stand_place place_of
  over_place (fresh (reads ph)) a b h = cc
  over_place (fresh (ends r p)) a b h = refl
  over_place (in_preamble m b os from here) a c h = refl
  over_place (in_content m e b os from here) a c h = refl
  over_place (in_literal e from n) a b h = refl

  module _ (t : List ℕ) where
    -- nothing more comes of a run
    pub data Frozen (o : Ran Stand) : Type 0 where
      ended : over o.state ≡ true → Frozen o
      filled : (u : List ℕ) (q : ℕ) (log : Log) → pour o.events t no_events ≡ full u q log → Frozen o

    frozen_on : (o : Ran Stand) (w : List ℕ) → Frozen o → Frozen (onward o w)
    unfolding further
    frozen_on o w (ended h) = ended (rw (over_stays o.state o.at (o.rest ++ w) h) h)
    frozen_on o w (filled u q log h) = filled u q log (pour_append o.events _ t no_events ∙ rw h)

    frozen_same : (o : Ran Stand) (w : List ℕ) → Frozen o → settled t (onward o w) ≡ settled t o
    unfolding settled further finish
    frozen_same o w (ended h) = rw (over_stays o.state o.at (o.rest ++ w) h, append-nil)
    frozen_same o w (filled u q log h) =
        let e : pour (o.events ++ (pieces set o.state o.at (o.rest ++ w)).events) t no_events ≡ full u q log = pour_append o.events _ t no_events ∙ rw h in
        rw (e, h)

    -- ---- a tap stands where the run on all the bytes shown so far stands
    pub data Stands (o : Ran Stand) (x : Tap) : Type 0 where
      live : (u : List ℕ) (log : Log) → over o.state ≡ false → pour o.events t no_events ≡ all u log
          → x ≡ record { settings = set; session = record { stand = o.state; at = o.at; log = log }; table = u; untaken = o.rest } → Stands o x
      dead : over x.session.stand ≡ true → lastly x ≡ settled t o → Frozen o → Stands o x

    pub stands_says : (o : Ran Stand) (x : Tap) → Stands o x → lastly x ≡ settled t o
    unfolding said settled finish
    stands_says o x (live u log h p e) = rw (e, p)
    stands_says o x (dead h e f) = e

    -- ---- one window
    pub dead_on : (x : Tap) (w : List ℕ) → over x.session.stand ≡ true → ((shows x w).session ≡ x.session) × ((shows x w).table ≡ x.table)
    unfolding shows window
    dead_on x w h = (rw h, rw h)

    module _ (o : Ran Stand) (w u : List ℕ) (log : Log) (h : over o.state ≡ false) (p : pour o.events t no_events ≡ all u log)
        (room : o.at + length (o.rest ++ w) ≤ limit) where
      abbrev r : Record
      r = record { stand = o.state; at = o.at; log = log }

      abbrev o2 : Ran Stand
      o2 = pieces set o.state o.at (o.rest ++ w)

      abbrev x : Tap
      x = record { settings = set; session = r; table = u; untaken = o.rest }

      read_is : window set r u (o.rest ++ w) ≡ landed o.at o2 (pour o2.events u log)
      unfolding window lands
      read_is = rw (h, le-ltb limit (o.at + length (o.rest ++ w)) room)

      poured_on : pour (o.events ++ o2.events) t no_events ≡ pour o2.events u log
      unfolding further
      poured_on = pour_append o.events o2.events t no_events ∙ rw p

      by_end : (v : List ℕ) (n : Log) → pour o2.events u log ≡ all v n → (c : Bool) → over o2.state ≡ c → Stands (onward o w) (shows x w)
      unfolding shows taken landed keeps said settled finish
      by_end v n q false e =
          let d : drop (o2.at - o.at) (o.rest ++ w) ≡ o2.rest = (runs.left Stand takes (does set) taking o.state o.at (o.rest ++ w)).is in
          live v n e (poured_on ∙ q) (rw (read_is, q, e, d))
      by_end v n q true e =
          dead (rw (read_is, q) e)
          (rw (read_is, poured_on, q)
          (ap (λ (a : ℕ). final v (stand_result o2.state) a n.count) (over_place o2.state (cond (keeps o2.state) o2.at o.at) o2.at e)))
          (ended e)

      by_pour : (z : Poured) → pour o2.events u log ≡ z → Stands (onward o w) (shows x w)
      unfolding shows landed refused over said settled finish stand_result result_of stand_place place_of
      by_pour (all v n) q = by_end v n q (over o2.state) refl
      by_pour (full v a n) q = dead (rw (read_is, q)) (rw (read_is, poured_on, q)) (filled v a n (poured_on ∙ q))

    pub stands_dead : (o : Ran Stand) (x : Tap) (w : List ℕ) → over x.session.stand ≡ true → lastly x ≡ settled t o → Frozen o → Stands (onward o w) (shows x w)
    unfolding said
    stands_dead o x w h e f = let d = dead_on x w h in dead (rw d.0 h) (rw (d.0, d.1) (e ∙ sym (frozen_same o w f))) (frozen_on o w f)

    pub stands_on : (o : Ran Stand) (x : Tap) (w : List ℕ) → o.at + length o.rest + length w ≤ limit → Stands o x → Stands (onward o w) (shows x w)
    stands_on o x w g (live u log h p e) =
        rw e (by_pour o w u log h p (omega (arith, length-append o.rest w)) (pour (pieces set o.state o.at (o.rest ++ w)).events u log) refl)
    stands_on o x w g (dead h e f) = stands_dead o x w h e f

    -- ---- windows one after another
    stands_all : (f : Stand) → Firm f → (ws : List (List ℕ)) (s : List ℕ) (x : Tap) → length s + length (flatten ws) ≤ limit → Stands (pieces set f 0 s) x
        → lastly (shows_all x ws) ≡ settled t (pieces set f 0 (s ++ flatten ws))
    unfolding shows_all flatten
    stands_all f o [] s x g i = stands_says (pieces set f 0 s) x i ∙ rw append-nil
    stands_all f o (w ∷ ws) s x g i =
        let n : (pieces set f 0 s).at + length (pieces set f 0 s).rest ≡ 0 + length s = runs.all_bytes Stand takes (does set) taking f 0 s in
        let j : Stands (onward (pieces set f 0 s) w) (shows x w) = stands_on (pieces set f 0 s) x w (omega (arith, length-append w (flatten ws))) i in
        let k : Stands (pieces set f 0 (s ++ w)) (shows x w) = rw (runs.joined Stand takes (does set) taking Firm firm w f 0 s o) at j in
        stands_all f o ws (s ++ w) (shows x w) (omega (arith, length-append w (flatten ws), length-append s w)) k
        ∙ ap (λ (v : List ℕ). settled t (pieces set f 0 v)) (append_assoc s w (flatten ws))

-- ---- what is told, in the table
abbrev answered : List ℕ → Told → Final
answered t x = finish (pour x.events t no_events) x.result x.place

-- a table that was full before a boundary that is too long is full all the same
agreed_if : (t : List ℕ) (x y : Told) (more : List Event) (z : Poured) → pour x.events t no_events ≡ z → x.result ≡ LongBoundary → y.events ≡ x.events ++ more
    → ((answered t x).result ≡ LongBoundary → ⊥) → answered t x ≡ answered t y
unfolding finish further
agreed_if t x y more (all u log) e l g h = absurd (h (rw e l))
agreed_if t x y more (full u q log) e l g h =
    let f : pour y.events t no_events ≡ full u q log = ap (λ (es : List Event). pour es t no_events) g ∙ pour_append x.events more t no_events ∙ rw e in
    rw (e, f)

agreed : (t : List ℕ) (x y : Told) → Agrees x y → ((answered t x).result ≡ LongBoundary → ⊥) → answered t x ≡ answered t y
agreed t x y (alike e) h = ap (answered t) e
agreed t x y (longer l more g) h = agreed_if t x y more (pour x.events t no_events) refl l g h

-- ---- where a session may start: it reads, and no boundary is open
pub record Starts (start : Phase) : Type 0 where
  pub reads_on : over (enters start 0) ≡ false
  pub firm : Firm (enters start 0)

pub entries : (e : Entry) → Starts (start_of e)
unfolding over enters Firm FirmState FirmPhase
entries SmtpClient = record { reads_on = refl; firm = tt }
entries SmtpServer = record { reads_on = refl; firm = tt }
entries Pop3Server = record { reads_on = refl; firm = tt }
entries ImapClient = record { reads_on = refl; firm = tt }

module _ (set : Settings) where
  pub begun : (start : Phase) (t : List ℕ) → over (enters start 0) ≡ false → Stands set t (pieces set (enters start 0) 0 []) (tapped set start t)
  unfolding run go pour
  begun start t h = live t no_events h refl refl

  module _ (e : Entry) (t : List ℕ) where
    abbrev after : List (List ℕ) → Final
    after ws = lastly (shows_all (tapped set (start_of e) t) ws)

    -- however the bytes are cut, the last answer and the table are those of the bytes taken in pieces
    pub cut_anyhow : (ws : List (List ℕ)) → length (flatten ws) ≤ limit → after ws ≡ settled t (pieces set (enters (start_of e) 0) 0 (flatten ws))
    cut_anyhow ws within =
        stands_all set t (enters (start_of e) 0) (entries e).firm ws [] (tapped set (start_of e) t) (omega arith) (begun (start_of e) t (entries e).reads_on)

    -- and those of the session with these settings on the whole, unless the answer is 12
    pub as_one_call : (ws : List (List ℕ)) → length (flatten ws) ≤ limit → ((after ws).result ≡ LongBoundary → ⊥)
        → after ws ≡ settle t no_events (session_with set (reads (start_of e)) 0 (flatten ws))
    unfolding settle settled enter
    as_one_call ws within h =
        cut_anyhow ws within
        ∙ agreed t (told_stand (pieces set (enters (start_of e) 0) 0 (flatten ws))) (told (session_with set (reads (start_of e)) 0 (flatten ws)))
        (bridge set (reads (start_of e)) 0 (flatten ws)) (λ q. h (ap (λ (f : Final). f.result) (cut_anyhow ws within) ∙ q))

    -- which without the strict setting is document 01's call
    pub as_document_01 : set.strict ≡ false → (ws : List (List ℕ)) → length (flatten ws) ≤ limit → ((after ws).result ≡ LongBoundary → ⊥)
        → after ws ≡ answer_of e t (flatten ws)
    unfolding answer
    as_document_01 off_set ws within h =
        as_one_call ws within h
        ∙ ap (settle t no_events) (off set off_set (reads (start_of e)) 0 (flatten ws))
        ∙ sym (rw (le-ltb limit (length (flatten ws)) within))

    -- two ways to cut the same bytes, 12 or not
    pub cut_alike : (vs ws : List (List ℕ)) → flatten vs ≡ flatten ws → length (flatten ws) ≤ limit → after vs ≡ after ws
    cut_alike vs ws q n =
        cut_anyhow vs (rw q n) ∙ ap (λ (s : List ℕ). settled t (pieces set (enters (start_of e) 0) 0 s)) q ∙ sym (cut_anyhow ws n)
