-- A legal history comes of the steps made of its entries.
use Rattle.std.proofs.Common.{◌≡◌, ℕ, ◌+◌, ◌<◌, ◌≤◌, Bool, true, false, cond, zero, suc, List, [], ◌∷◌, ◌++◌, length, map, take, set, slice_get, Option, None, Some, Ok, inl, inr, refl, sym, ap, ◌∙◌, subst, append_assoc, append-nil, length-append, arith}
use Rattle.std.specs.List.{cons_option}
use Rattle.std.proofs.lemmas.List.Elements.{filter_map-append}
use Rattle.mllp_frame.specs.Event.{block}
use Rattle.mllp_frame.specs.Framing.{block_bytes, blocks}
use Rattle.mllp_frame.specs.inner.Framing.{open_end}
use Rattle.mllp_frame.proofs.DataLaws.{block_behind, nothing_open_behind}
use Rattle.judge_core.specs.Judging.{is_bookable}
use Rattle.event_log.specs.declared.entry.Entry.{Entry}
use Rattle.event_log.specs.declared.entry.Entry.TheVariants.{Arrival, Take, Settle, Cancel, Deploy}
use Rattle.event_log.specs.declared.entry.Told.{Told}
use Rattle.event_log.specs.Answers.{arrival_answer}
use Rattle.event_log.specs.History.{History, followed_by}
use Rattle.event_log.specs.Legal.{IsLegal, MayFollow}
use Rattle.event_log.proofs.Events.{arrival-told, next-again}
use Rattle.event_log.proofs.Following.{follows-since, take-below, take-whole}
use Rattle.conn_core.specs.Messages.{message_of, messages, messages_of}
use Rattle.conn_core.specs.Replies.{Answer, dues, numbered}
use Rattle.engine_model.specs.Run.{Connection, Run, silent, started}
use Rattle.engine_model.specs.Turn.{Turn}
use Rattle.engine_model.specs.Steps.{HearsAt, HearsIf, ReadsOn, Runs, Steps, frame_events_max, with_history}
use Rattle.engine_model.specs.Converse.{IsRunOf}
use Rattle.engine_model.specs.inner.Converse.{KeepsTo, step_of, steps_of}
use Rattle.engine_model.proofs.Places.{get-set_other, get-set_same, same_or_apart}

-- a connection on a channel that has had n frame events at most, and stands outside of a block
record Ready (channel n : ℕ) (c : Connection) : Type 0 where
  channel_is : c.channel ≡ channel
  stays : c.ended ≡ false
  outside : open_end c.stream ≡ []
  few : length (blocks c.stream) ≤ n

-- the connection of that number is ready
record ReadyAt (r : Run) (conn channel n : ℕ) : Type 0 where
  c : Connection
  at : slice_get r.connections conn ≡ Some c
  ready : Ready channel n c

abbrev AllReady : List ℕ → ℕ → Run → Type 0
AllReady channels n r = (conn channel : ℕ) → slice_get channels conn ≡ Some channel → ReadyAt r conn channel n

later : {r : Run} {conn channel : ℕ} (n : ℕ) → ReadyAt r conn channel n → ReadyAt r conn channel (n + 1)
later n x = record { c = x.c; at = x.at; ready = record { channel_is = x.ready.channel_is; stays = x.ready.stays; outside = x.ready.outside; few = let few : length (blocks x.c.stream) ≤ n = x.ready.few in omega arith } }

-- only a message that can be booked has an answer
bookable : (h : History) (channel : ℕ) (raw : List ℕ) (told : Told) → arrival_answer h channel raw ≡ Some told → is_bookable raw ≡ true
unfolding arrival_answer
bookable h channel raw told is = by (is_bookable raw) _ is
  where
    by : (b : Bool) (o : Option Told) → cond b o None ≡ Some told → b ≡ true
    by true o is = refl
    by false o is = absurd cc

-- one step more
record Reached (channels : List ℕ) (n : ℕ) (r : Run) (e : Entry) : Type 0 where
  to : Run
  steps : Steps (step_of e) r to
  history : to.history ≡ followed_by r.history e
  ready : AllReady channels (n + 1) to

module _ (channels : List ℕ) (n : ℕ) (r : Run) (ready : AllReady channels n r) where
  -- an event that is no arrival leaves the connections as they are
  still : (h' : History) → AllReady channels (n + 1) (with_history r h')
  still h' conn channel at = let x = ready conn channel at in let y = later n x in record { c = y.c; at = y.at; ready = y.ready }

  module _ (conn : ℕ) (raw : List ℕ) (told : Told) (c : Connection) (at : slice_get r.connections conn ≡ Some c) (c_is : Ready c.channel n c) (may : MayFollow r.history (Arrival conn c.channel raw told)) (few : n + 1 < frame_events_max) where
    abbrev new : Answer
    new = record { raw = raw; outcome = Ok told; moment = 0 }

    abbrev grown : Connection
    grown = record { channel = c.channel; stream = c.stream ++ block_bytes raw; answers = c.answers ++ new ∷ []; output = c.output ++ numbered conn (1 + length (dues c.answers)) (dues (new ∷ [])); ended = false }

    abbrev heard : Run
    heard = record { history = followed_by r.history (Arrival conn c.channel raw told); connections = set r.connections conn grown; folded = r.folded }

    events : blocks (c.stream ++ block_bytes raw) ≡ blocks c.stream ++ block raw ∷ []
    events = block_behind c.stream raw c_is.outside may.possible

    counted : length (blocks (c.stream ++ block_bytes raw)) ≤ n + 1
    counted = let before : length (blocks c.stream) ≤ n = c_is.few in omega (arith, ap length events, length-append (blocks c.stream) (block raw ∷ []))

    reads : ReadsOn conn (block_bytes raw) 0 r.history heard.history c grown
    reads = record {
      new = new ∷ [];
      answered = (may, refl, tt);
      booked = refl;
      channel = refl;
      stream = refl;
      answers = refl;
      each_once =
          ap messages_of events
          ∙ filter_map-append message_of (blocks c.stream) (block raw ∷ [])
          ∙ ap (λ b. messages c.stream ++ cons_option (cond b (Some raw) None) []) (bookable r.history c.channel raw told (arrival-told r.history conn c.channel raw told may.replied));
      output = refl;
      stays = refl;
      within = omega (arith, counted, few);
    }

    hears : Steps (step_of (Arrival conn c.channel raw told)) r heard
    hears =
        subst (λ o. HearsAt o conn (block_bytes raw) 0 r heard) (sym at)
        (subst (λ b. HearsIf b conn (block_bytes raw) 0 r heard c) (sym c_is.stays) (record { to = grown; only = refl; stays = refl; does = inl reads }))

    grown-ready : Ready c.channel (n + 1) grown
    grown-ready = record { channel_is = refl; stays = refl; outside = nothing_open_behind c.stream raw c_is.outside may.possible; few = counted }

    heard-ready : slice_get channels conn ≡ Some c.channel → AllReady channels (n + 1) heard
    heard-ready mine k channel got =
        elim (same_or_apart conn k) [
          | inl same ↦
              let is : Some channel ≡ Some c.channel = sym got ∙ ap (slice_get channels) (sym same) ∙ mine in
              let one : c.channel ≡ channel = cc in
              subst (λ m. ReadyAt heard m channel (n + 1)) same
              (record { c = grown; at = get-set_same r.connections conn c grown at; ready = subst (λ m. Ready m (n + 1) grown) one grown-ready })
          | inr apart ↦
              let y = later n (ready k channel got) in
              record { c = y.c; at = get-set_other r.connections conn k grown apart ∙ y.at; ready = y.ready }
        ]

    reached : slice_get channels conn ≡ Some c.channel → Reached channels n r (Arrival conn c.channel raw told)
    reached mine = record { to = heard; steps = hears; history = refl; ready = heard-ready mine }

  arrived : (conn channel : ℕ) (raw : List ℕ) (told : Told) → slice_get channels conn ≡ Some channel → MayFollow r.history (Arrival conn channel raw told) → n + 1 < frame_events_max → Reached channels n r (Arrival conn channel raw told)
  arrived conn channel raw told mine may few =
      let x = ready conn channel mine in
      let is : x.c.channel ≡ channel = x.ready.channel_is in
      let own : Ready x.c.channel n x.c = subst (λ m. Ready m n x.c) (sym is) x.ready in
      subst (λ m. Reached channels n r (Arrival conn m raw told)) is
      (reached conn raw told x.c x.at own (subst (λ m. MayFollow r.history (Arrival conn m raw told)) (sym is) may) few (mine ∙ ap (λ m. Some m) (sym is)))

  -- each entry that may follow comes of its step
  step : (e : Entry) → MayFollow r.history e → ((conn channel : ℕ) (raw : List ℕ) (told : Told) → e ≡ Arrival conn channel raw told → slice_get channels conn ≡ Some channel) → n + 1 < frame_events_max → Reached channels n r e
  step (Arrival conn channel raw told) may keeps few = arrived conn channel raw told (keeps conn channel raw told refl) may few
  step (Take ticket now) may keeps few =
      record {
        to = with_history r (followed_by r.history (Take ticket now));
        steps = (tt, inl (tt, ap (with_history r) (sym (next-again r.history (Take ticket now) may))));
        history = refl;
        ready = still (followed_by r.history (Take ticket now));
      }
  step (Settle outcome ticket now state) may keeps few =
      record {
        to = with_history r (followed_by r.history (Settle outcome ticket now state));
        steps = (tt, inl (tt, ap (with_history r) (sym (next-again r.history (Settle outcome ticket now state) may))));
        history = refl;
        ready = still (followed_by r.history (Settle outcome ticket now state));
      }
  step (Cancel number among mask) may keeps few =
      record {
        to = with_history r (followed_by r.history (Cancel number among mask));
        steps = (tt, inl (tt, ap (with_history r) (sym (next-again r.history (Cancel number among mask) may))));
        history = refl;
        ready = still (followed_by r.history (Cancel number among mask));
      }
  step (Deploy plan) may keeps few =
      record {
        to = with_history r (followed_by r.history (Deploy plan));
        steps = (tt, inl (may.possible, ap (with_history r) (sym (next-again r.history (Deploy plan) may))));
        history = refl;
        ready = still (followed_by r.history (Deploy plan));
      }

-- ---- entry by entry

abbrev of_snapshot : History → List Entry → History
of_snapshot h es = record { opening = h.opening; entries = h.entries ++ es }

get-after : {A : Type 0} (xs ys : List A) (x : A) → slice_get (xs ++ x ∷ ys) (length xs) ≡ Some x
get-after [] ys x = refl
get-after (z ∷ xs) ys x = get-after xs ys x

take-before : {A : Type 0} (xs ys : List A) → take (length xs) (xs ++ ys) ≡ xs
take-before xs ys = take-below xs ys (length xs) (omega arith) ∙ take-whole xs

record Arrives (steps : List Turn) (r : Run) (h : History) : Type 0 where
  to : Run
  runs : Runs steps r to
  history : to.history ≡ h

first : (e : Entry) (es : List Entry) (channels : List ℕ) → KeepsTo channels (e ∷ es) → (conn channel : ℕ) (raw : List ℕ) (told : Told) → e ≡ Arrival conn channel raw told → slice_get channels conn ≡ Some channel
first e es channels keep conn channel raw told is = keep.keeps 0 conn channel raw told (ap (λ e. Some e) is)

walk : (channels : List ℕ) (es : List Entry) (n : ℕ) (r : Run) → AllReady channels n r → IsLegal (of_snapshot r.history es) → KeepsTo channels es → n + length es < frame_events_max → Arrives (map step_of es) r (of_snapshot r.history es)
walk channels [] n r ready legal keep few =
    record { to = r; runs = refl; history = ap (λ es. record { opening = r.history.opening; entries = es }) (sym (append-nil r.history.entries)) }
walk channels (e ∷ es) n r ready legal keep few =
    let may : MayFollow r.history e = subst (λ xs. MayFollow (record { opening = r.history.opening; entries = xs }) e) (take-before r.history.entries (e ∷ es)) (follows-since (of_snapshot r.history (e ∷ es)) legal (length r.history.entries) e (get-after r.history.entries es e)) in
    let one = step channels n r ready e may (first e es channels keep) (omega arith) in
    let joined : (r.history.entries ++ e ∷ []) ++ es ≡ r.history.entries ++ (e ∷ es) = append_assoc r.history.entries (e ∷ []) es in
    let goes : of_snapshot one.to.history es ≡ of_snapshot r.history (e ∷ es) = ap (λ (h : History). of_snapshot h es) one.history ∙ ap (λ xs. record { opening = r.history.opening; entries = xs }) joined in
    let rest = walk channels es (n + 1) one.to one.ready (subst IsLegal (sym goes) legal)
    (record { keeps = λ place conn channel raw told is. keep.keeps (suc place) conn channel raw told is }) (omega arith) in
    record { to = rest.to; runs = (one.to, one.steps, rest.runs); history = rest.history ∙ goes }

silent-ready : (channels : List ℕ) (conn channel : ℕ) → slice_get channels conn ≡ Some channel → slice_get (map silent channels) conn ≡ Some (silent channel)
silent-ready [] conn channel is = absurd cc
silent-ready (x ∷ channels) zero channel is = let same : x ≡ channel = cc in ap (λ n. Some (silent n)) same
silent-ready (x ∷ channels) (suc conn) channel is = silent-ready channels conn channel is

-- a legal history in which each connection keeps to its channel comes of its steps
pub reaches : (h : History) (channels : List ℕ) → IsLegal h → KeepsTo channels h.entries → length h.entries < frame_events_max → IsRunOf (steps_of h) h channels
reaches h channels legal keep few =
    let from : Run = started h.opening channels in
    let all : AllReady channels 0 from = λ conn channel is. record { c = silent channel; at = silent-ready channels conn channel is; ready = record { channel_is = refl; stays = refl; outside = refl; few = omega arith } } in
    let w = walk channels h.entries 0 from all legal keep (omega arith) in
    record { run = w.to; runs = w.runs; history = w.history }
