-- One attempt after another.
use Rattle.std.proofs.Common.{◌≡◌, ◌⊎◌, inl, inr, ◌≤◌, ℕ, ◌+◌, Bool, true, false, cond, if◌then◌else◌, map, List, [], ◌∷◌, ◌++◌, All, Option, None, Some, refl, sym, ap, subst, is_some, ◌∙◌, append_assoc, append-nil, length-append, arith}
use Rattle.std.specs.List.{count_by, flat_map}
use Rattle.std.specs.Io.KnownBytes.{Appends, Keeps}
use Rattle.std.proofs.KnownBytes.{Appends-kept, Appends-nil, Appends-trans, Keeps-trans}
use Rattle.std.proofs.lemmas.List.Elements.{All-nil, All-push}
use Rattle.std.proofs.lemmas.List.Concat.{flat_map-append}
use Rattle.std.proofs.lemmas.List.Sums.{sum_by-append}
use Rattle.book_lock.specs.Log.{SeatView}
use Rattle.book_lock.specs.Shares.{Made, StationView}
use Rattle.event_log.specs.History.{History}
use Rattle.dest_queue.specs.declared.Outcome.{Outcome}
use Rattle.dest_queue.specs.declared.Outcome.TheVariants.{Delivered, Again, Rejected}
use Rattle.delivery_worker.specs.declared.report.DeliverReport.{DeliverReport}
use Rattle.mllp_frame.specs.Event.{FramingEvent}
use Rattle.mllp_frame.specs.inner.Framed.{Framed, blank}
use Rattle.mllp_frame.specs.Framing.{block_bytes}
use Rattle.hl7_head.specs.Msa.{MsaFields}
use Rattle.delivery_worker.specs.Answers.{answer_in, outcome_of}
use Rattle.delivery_worker.specs.inner.Calls.{CallsMore}
use Rattle.delivery_worker.proofs.Calls.{calls_then}
use Rattle.delivery_worker.specs.inner.Stream.{Before, Goes, Receives, Stands}
use Rattle.delivery_worker.proofs.Streams.{goes_nowhere, goes_opened, goes_stays}
use Rattle.delivery_worker.specs.Delivering.{Attempt, Begins, Delivers, InTurn, IsSendingOf, IsOnward, ReadsInOrder, ReportsAttempts, Visit, block_if, attempt_outcome, attempts_in, is_again, is_delivery, is_rejected, is_used, read_in, received_in, sent_by}
use Rattle.delivery_worker.specs.inner.Delivering.{Sends, Spends, Tries, way_of, counted, no_attempts}
use Rattle.delivery_worker.specs.Turns.{DeliversInLog}
use Rattle.delivery_worker.proofs.InLog.{no_more_turns, no_turn, turns_then}

abbrev one_where : Bool → ℕ
one_where b = cond b 1 0

-- one more of a count
count_one : {X : Type 0} (p : X → Bool) (xs : List X) (x : X) → count_by p (xs ++ x ∷ []) ≡ count_by p xs + cond (p x) 1 0
count_one p xs x = omega (arith, sum_by-append (λ y. cond (p y) 1 0) xs (x ∷ []))

-- the counts of one more attempt, by what it came to
counts_more : (attempts : List Attempt) (a : Attempt) (o : Outcome) (is_kind : Outcome → Bool) (n : ℕ) → attempt_outcome a ≡ o
    → n ≡ count_by (λ b. is_kind (attempt_outcome b)) attempts
    → n + cond (is_kind o) 1 0 ≡ count_by (λ b. is_kind (attempt_outcome b)) (attempts ++ a ∷ [])
counts_more attempts a o is_kind n is so_far =
    omega (arith, count_one (λ b. is_kind (attempt_outcome b)) attempts a, ap (λ x. one_where (is_kind x)) is, so_far)

-- a report with one more attempt
pub tells_more : (attempts : List Attempt) (r : DeliverReport) (a : Attempt) (o : Outcome) → attempt_outcome a ≡ o → ReportsAttempts attempts r
    → ReportsAttempts (attempts ++ a ∷ []) (counted o r)
tells_more attempts r a Delivered is t =
    record {
      taken = omega (arith, length-append attempts (a ∷ []), t.taken);
      delivered = omega (arith, counts_more attempts a Delivered is_delivery r.delivered is t.delivered);
      again = omega (arith, counts_more attempts a Delivered is_again r.again is t.again);
      rejected = omega (arith, counts_more attempts a Delivered is_rejected r.rejected is t.rejected);
    }
tells_more attempts r a Again is t =
    record {
      taken = omega (arith, length-append attempts (a ∷ []), t.taken);
      delivered = omega (arith, counts_more attempts a Again is_delivery r.delivered is t.delivered);
      again = omega (arith, counts_more attempts a Again is_again r.again is t.again);
      rejected = omega (arith, counts_more attempts a Again is_rejected r.rejected is t.rejected);
    }
tells_more attempts r a Rejected is t =
    record {
      taken = omega (arith, length-append attempts (a ∷ []), t.taken);
      delivered = omega (arith, counts_more attempts a Rejected is_delivery r.delivered is t.delivered);
      again = omega (arith, counts_more attempts a Rejected is_again r.again is t.again);
      rejected = omega (arith, counts_more attempts a Rejected is_rejected r.rejected is t.rejected);
    }

-- one more of lists that are joined
pub flat_one : {X Y : Type 0} (f : X → List Y) (xs : List X) (x : X) → flat_map f (xs ++ x ∷ []) ≡ flat_map f xs ++ f x
flat_one {X} {Y} f xs x = flat_map-append f xs (x ∷ []) ∙ ap (λ (l : List Y). flat_map f xs ++ l) (append-nil (f x))

-- nothing was sent
pub none_sent : (old new : Option (List ℕ)) → Keeps old new → Appends old new []
none_sent None new q = tt
none_sent (Some xs) None q = absurd q
none_sent (Some xs) (Some ys) q = q ∙ sym (append-nil xs)

-- a sending whose text was not sent
pub tried_nothing : (old new : Option Framed) (sent sends log logs : Option (List ℕ)) (control_id payload : List ℕ) (ack : Bool) → new ≡ None → Keeps sent sends → Keeps log logs
    → (s : Sends old new sent sends log logs Again) × IsSendingOf s.sending control_id payload ack
tried_nothing old new sent sends log logs control_id payload ack none same_sent same_log = (
  record {
    sending = record { control_id = control_id; payload = payload; ack = ack; sent = false; read = [] };
    outcome = refl;
    sends_block = none_sent sent sends same_sent;
    got = [];
    logged = none_sent log logs same_log;
    goes = subst (λ (n : Option Framed). Goes old n [] []) (sym none) (goes_nowhere old);
  },
  (refl, refl, refl),
)

-- a sending of a text to a destination that doesn't acknowledge
pub tried_sending : (f : Framed) (sent sends log logs : Option (List ℕ)) (control_id payload text : List ℕ) (ack : Bool)
    → Appends sent sends (block_bytes text) → text ≡ payload → Keeps log logs → ack ≡ false
    → (s : Sends (Some f) (Some f) sent sends log logs Delivered) × IsSendingOf s.sending control_id payload ack
tried_sending f sent sends log logs control_id payload text ack wrote same_text same_log no_ack = (
  record {
    sending = record { control_id = control_id; payload = payload; ack = false; sent = true; read = [] };
    outcome = refl;
    sends_block = subst (λ (l : List ℕ). Appends sent sends (block_bytes l)) same_text wrote;
    got = [];
    logged = none_sent log logs same_log;
    goes = goes_stays f;
  },
  (refl, refl, sym no_ack),
)

-- a sending of a text over a connection that was ended before a byte came
pub tried_in_vain : (old : Option Framed) (sent wrote sends log mid logs : Option (List ℕ)) (control_id payload text : List ℕ) (ack : Bool)
    → Appends sent wrote (block_bytes text) → text ≡ payload → Keeps wrote sends → Keeps log mid → Keeps mid logs → ack ≡ true
    → (s : Sends old None sent sends log logs Again) × IsSendingOf s.sending control_id payload ack
tried_in_vain old sent wrote sends log mid logs control_id payload text ack writes same_text same_sent same_log no_more acks = (
  record {
    sending = record { control_id = control_id; payload = payload; ack = true; sent = true; read = [] };
    outcome = refl;
    sends_block = Appends-kept sent wrote sends _ (subst (λ (l : List ℕ). Appends sent wrote (block_bytes l)) same_text writes) same_sent;
    got = [];
    logged = none_sent log logs (Keeps-trans log mid logs same_log no_more);
    goes = goes_nowhere old;
  },
  (refl, refl, sym acks),
)

-- a sending of a text whose answers were read
pub tried_reading : (f : Framed) (new after : Option Framed) (sent wrote sends log mid logs : Option (List ℕ)) (control_id payload text : List ℕ) (ack : Bool)
    (had has : List (Option MsaFields)) (o : Outcome) → Appends sent wrote (block_bytes text) → text ≡ payload → Keeps wrote sends → Keeps log mid
    → Receives f new mid logs had has → had ≡ [] → after ≡ new → o ≡ outcome_of control_id has → ack ≡ true
    → (s : Sends (Some f) after sent sends log logs o) × IsSendingOf s.sending control_id payload ack
tried_reading f new after sent wrote sends log mid logs control_id payload text ack had has o writes same_text same_sent same_log r none is decides acks = (
  record {
    sending = record { control_id = control_id; payload = payload; ack = true; sent = true; read = r.read };
    outcome = ap (outcome_of control_id) (sym (r.answers ∙ ap (λ (l : List (Option MsaFields)). l ++ map answer_in r.read) none)) ∙ sym decides;
    sends_block = Appends-kept sent wrote sends _ (subst (λ (l : List ℕ). Appends sent wrote (block_bytes l)) same_text writes) same_sent;
    got = r.got;
    logged = Appends-trans log mid logs [] r.got (none_sent log mid same_log) r.logged;
    goes = subst (λ (n : Option Framed). Goes (Some f) n r.got r.read) (sym is) r.goes;
  },
  (refl, refl, sym acks),
)

-- a sending over a new connection
pub sends_anew : (f : Framed) (new : Option Framed) (sent begin sends log first logs : Option (List ℕ)) (control_id payload : List ℕ) (ack : Bool) (o : Outcome)
    → f ≡ blank → Keeps sent begin → Keeps log first → (s : Sends (Some f) new begin sends first logs o) × IsSendingOf s.sending control_id payload ack
    → (s : Sends None new sent sends log logs o) × IsSendingOf s.sending control_id payload ack
sends_anew f new sent begin sends log first logs control_id payload ack o is same_sent same_log s = (
  record {
    sending = s.0.sending;
    outcome = s.0.outcome;
    sends_block = Appends-trans sent begin sends [] _ (none_sent sent begin same_sent) s.0.sends_block;
    got = s.0.got;
    logged = Appends-trans log first logs [] _ (none_sent log first same_log) s.0.logged;
    goes = goes_opened f new s.0.got s.0.sending.read is s.0.goes;
  },
  s.1,
)

-- before an attempt nothing is sent
pub sends_after : (old : Option Framed) (f : Framed) (new : Option Framed) (sent begin sends log first logs : Option (List ℕ)) (control_id payload : List ℕ) (ack : Bool) (o : Outcome)
    → old ≡ Some f → Keeps sent begin → Keeps log first → (s : Sends (Some f) new begin sends first logs o) × IsSendingOf s.sending control_id payload ack
    → (s : Sends old new sent sends log logs o) × IsSendingOf s.sending control_id payload ack
sends_after old f new sent begin sends log first logs control_id payload ack o is same_sent same_log s = (
  record {
    sending = s.0.sending;
    outcome = s.0.outcome;
    sends_block = Appends-trans sent begin sends [] _ (none_sent sent begin same_sent) s.0.sends_block;
    got = s.0.got;
    logged = Appends-trans log first logs [] _ (none_sent log first same_log) s.0.logged;
    goes = subst (λ (n : Option Framed). Goes n new s.0.got s.0.sending.read) (sym is) s.0.goes;
  },
  s.1,
)

-- no connection was kept
pub spends_none : (old : Option Framed) (sent sends log logs : Option (List ℕ)) (calls call : Option ℕ) (payload : List ℕ) → Keeps sent sends → Keeps log logs
    → Spends old sent sends log logs calls call payload
spends_none old sent sends log logs calls call payload same_sent same_log =
    record { spent = false; sends_block = none_sent sent sends same_sent; nothing_came = same_log; asked = λ is. cc; was_kept = λ is. cc }

-- the text went over a connection that was kept, or did not, and not a byte came
pub spends_sending : (old : Option Framed) (f : Framed) (new : Option Framed) (sent begin sends log first logs : Option (List ℕ)) (calls mid call : Option ℕ) (control_id payload : List ℕ) (ack : Bool) (o : Outcome) (n : ℕ)
    → old ≡ Some f → Keeps sent begin → Keeps log first → CallsMore calls mid 0 → (s : Sends (Some f) new begin sends first logs o) × IsSendingOf s.sending control_id payload ack
    → Keeps first logs → CallsMore mid call n → Keeps begin sends ⊎ (n ≡ 1) → Spends old sent sends log logs calls call payload
spends_sending old f new sent begin sends log first logs calls mid call control_id payload ack o n is same_sent same_log no_call s nothing asked (inl unsent) =
    spends_none old sent sends log logs calls call payload (Keeps-trans sent begin sends same_sent unsent) (Keeps-trans log first logs same_log nothing)
spends_sending old f new sent begin sends log first logs calls mid call control_id payload ack o n is same_sent same_log no_call s nothing asked (inr one) =
    record {
      spent = s.0.sending.sent;
      sends_block = subst (λ (l : List ℕ). Appends sent sends (block_if s.0.sending.sent l)) s.1.1
          (Appends-trans sent begin sends [] _ (none_sent sent begin same_sent) s.0.sends_block);
      nothing_came = Keeps-trans log first logs same_log nothing;
      asked = λ _. calls_then calls mid call 0 n 1 no_call asked (omega (arith, one));
      was_kept = λ _. ap is_some is;
    }

-- an attempt over the connection that was open
pub tries_kept : (old new : Option Framed) (sent begin sends log first logs : Option (List ℕ)) (control_id payload : List ℕ) (ack : Bool) (o : Outcome)
    → Keeps sent begin → Keeps log first → is_some old ≡ true → (s : Sends old new begin sends first logs o) × IsSendingOf s.sending control_id payload ack
    → (t : Tries old new sent sends log logs o) × IsSendingOf t.attempt.last control_id payload ack
tries_kept old new sent begin sends log first logs control_id payload ack o same_sent same_log is_open s = (
  record {
    attempt = record { last = s.0.sending; anew = false; spent = false };
    outcome = s.0.outcome;
    sends_block = Appends-trans sent begin sends [] _ (none_sent sent begin same_sent) s.0.sends_block;
    was_kept = λ is. cc;
    is_anew = λ is. cc;
    is_open = λ _. is_open;
    got = s.0.got;
    logged = Appends-trans log first logs [] _ (none_sent log first same_log) s.0.logged;
    goes = s.0.goes;
  },
  s.1,
)

-- an attempt over a new connection, after the open one was of no use
pub tries_anew : (old new : Option Framed) (sent begin mid sends log first between logs : Option (List ℕ)) (calls call : Option ℕ) (control_id payload : List ℕ) (ack : Bool) (o : Outcome)
    → Keeps sent begin → Keeps log first → Spends old begin mid first between calls call payload → (s : Sends None new mid sends between logs o) × IsSendingOf s.sending control_id payload ack
    → (t : Tries old new sent sends log logs o) × IsSendingOf t.attempt.last control_id payload ack
tries_anew old new sent begin mid sends log first between logs calls call control_id payload ack o same_sent same_log spent s = (
  record {
    attempt = record { last = s.0.sending; anew = true; spent = spent.spent };
    outcome = s.0.outcome;
    sends_block = Appends-trans sent mid sends _ _
        (subst (λ (l : List ℕ). Appends sent mid (block_if spent.spent l)) (sym s.1.1)
        (Appends-trans sent begin mid [] _ (none_sent sent begin same_sent) spent.sends_block))
        s.0.sends_block;
    was_kept = spent.was_kept;
    is_anew = λ _. refl;
    is_open = λ is. cc;
    got = s.0.got;
    logged = Appends-trans log between logs [] _ (none_sent log between (Keeps-trans log first between same_log spent.nothing_came)) s.0.logged;
    goes = s.0.goes;
  },
  s.1,
)

-- nothing was sent or received after an attempt, which was a turn
pub tries_told : (h : History) (d : ℕ) (old new : Option Framed) (sent sends after log logs later : Option (List ℕ)) (begun ended : SeatView) (o : Outcome)
    → (t : Tries old new sent sends log logs o) → Keeps sends after → Keeps logs later → DeliversInLog h d begun ended (t.attempt ∷ [])
    → (t : Tries old new sent after log later o) × DeliversInLog h d begun ended (t.attempt ∷ [])
tries_told h d old new sent sends after log logs later begun ended o t same_sent same_log turn = (
  record {
    attempt = t.attempt;
    outcome = t.outcome;
    sends_block = Appends-kept sent sends after _ t.sends_block same_sent;
    was_kept = t.was_kept;
    is_anew = t.is_anew;
    is_open = t.is_open;
    got = t.got;
    logged = Appends-kept log logs later _ t.logged same_log;
    goes = t.goes;
  },
  turn,
)

-- whether the last of these connections had an attempt
abbrev pub last_used : Bool → List Visit → Bool
last_used was_kept [] = was_kept
last_used was_kept (v ∷ rest) = last_used (is_used v.attempts) rest

-- one more connection
turn_push : (was_kept : Bool) (visits : List Visit) (v : Visit) → InTurn was_kept visits → Begins (last_used was_kept visits) v.attempts → InTurn was_kept (visits ++ v ∷ [])
turn_push was_kept [] v turn begins = (begins, tt)
turn_push was_kept (w ∷ rest) v turn begins = (turn.0, turn_push (is_used w.attempts) rest v turn.1 begins)

last_push : (was_kept : Bool) (visits : List Visit) (v : Visit) → last_used was_kept (visits ++ v ∷ []) ≡ is_used v.attempts
last_push was_kept [] v = refl
last_push was_kept (w ∷ rest) v = last_push (is_used w.attempts) rest v

-- one more attempt over the connection that is kept
begins_push : (was_kept : Bool) (attempts : List Attempt) (a : Attempt) → is_used attempts ≡ true → Begins was_kept attempts → IsOnward a → Begins was_kept (attempts ++ a ∷ [])
begins_push was_kept [] a used begins onward = absurd (cc)
begins_push was_kept (b ∷ rest) a used begins onward = (begins.0, begins.1, All-push IsOnward rest a begins.2 onward)

used_push : (attempts : List Attempt) (a : Attempt) → is_used (attempts ++ a ∷ []) ≡ true
used_push [] a = refl
used_push (b ∷ rest) a = refl

-- a connection is open after an attempt over it, and there is none before one
abbrev pub UsedAs : Option Framed → List Attempt → Type 0
UsedAs None attempts = attempts ≡ []
UsedAs (Some f) attempts = is_used attempts ≡ true

-- The connections so far, of which the last may be open: they had these attempts, and read what was received.
pub record Going (framer : Option Framed) (log logs : Option (List ℕ)) (all : List Attempt) : Type 0 where
  pub visits : List Visit
  pub in_order : All ReadsInOrder visits
  pub in_turn : InTurn false visits
  pub attempts : List Attempt
  pub begins : Begins (last_used false visits) attempts
  pub used : UsedAs framer attempts
  pub received : List ℕ
  pub open_one : Before framer received (read_in attempts)
  pub all_are : all ≡ attempts_in visits ++ attempts
  pub logged : Appends log logs (received_in visits ++ received)

going_start : (log : Option (List ℕ)) → Going None log log []
going_start log =
    record {
      visits = [];
      in_order = All-nil ReadsInOrder;
      in_turn = tt;
      attempts = [];
      begins = tt;
      used = refl;
      received = [];
      open_one = (refl, refl);
      all_are = refl;
      logged = Appends-nil log;
    }

-- what was read of the last connection
last_reads : (framer : Option Framed) (received : List ℕ) (attempts : List Attempt) → Before framer received (read_in attempts)
    → ReadsInOrder (record { attempts = attempts; received = received })
last_reads None received attempts b = ([], rw (b.0, b.1) refl)
last_reads (Some f) received attempts b = (f.to_come, b.events)

-- the connection that was open is not used any more
going_close : (framer : Option Framed) (log logs : Option (List ℕ)) (all : List Attempt) → Going framer log logs all → Going None log logs all
going_close framer log logs all g =
    let last : Visit = record { attempts = g.attempts; received = g.received } in
    record {
      visits = g.visits ++ last ∷ [];
      in_order = All-push ReadsInOrder g.visits last g.in_order (last_reads framer g.received g.attempts g.open_one);
      in_turn = turn_push false g.visits last g.in_turn g.begins;
      attempts = [];
      begins = tt;
      used = refl;
      received = [];
      open_one = (refl, refl);
      all_are = g.all_are ∙ sym (flat_one (λ (v : Visit). v.attempts) g.visits last) ∙ sym (append-nil _);
      logged = subst (λ (l : List ℕ). Appends log logs l) (sym (flat_one (λ (v : Visit). v.received) g.visits last) ∙ sym (append-nil _)) g.logged;
    }

not_true : (b : Bool) → ¬ (b ≡ true) → b ≡ false
not_true false never = refl
not_true true never = absurd (never refl)

not_spent : (a : Attempt) → a.anew ≡ false → (a.spent ≡ true → a.anew ≡ true) → a.spent ≡ false
not_spent a way is_anew = not_true a.spent (λ is. let anew = is_anew is in cc)

-- The connections before an attempt, which goes over the last.
record Ready (framer : Option Framed) (log logs : Option (List ℕ)) (all : List Attempt) (a : Attempt) : Type 0 where
  pub going : Going framer log logs all
  pub begins : Begins (last_used false going.visits) (going.attempts ++ a ∷ [])

-- the connection that an attempt's last sending goes over
going_over : (a : Attempt) (anew : Bool) (old : Option Framed) (log logs : Option (List ℕ)) (all : List Attempt) → a.anew ≡ anew
    → (a.spent ≡ true → is_some old ≡ true) → (a.spent ≡ true → a.anew ≡ true) → (a.anew ≡ false → is_some old ≡ true) → Going old log logs all
    → Ready (if anew then None else old) log logs all a
unfolding going_close
going_over a false None log logs all way was_kept is_anew is_open g = absurd (let none = is_open way in cc)
going_over a false (Some f) log logs all way was_kept is_anew is_open g =
    record { going = g; begins = begins_push _ g.attempts a g.used g.begins (way, not_spent a way is_anew) }
going_over a true None log logs all way was_kept is_anew is_open g =
    record { going = g; begins = subst (λ (l : List Attempt). Begins (last_used false g.visits) (l ++ a ∷ [])) (sym g.used) (way, λ is. absurd (let kept = was_kept is in cc), All-nil IsOnward) }
going_over a true (Some f) log logs all way was_kept is_anew is_open g =
    record { going = going_close (Some f) log logs all g; begins = (way, λ _. last_push false g.visits _ ∙ g.used, All-nil IsOnward) }

-- one more attempt
going_one : (old new : Option Framed) (log mid logs : Option (List ℕ)) (all : List Attempt) (a : Attempt) (got : List ℕ) → Ready old log mid all a → Goes old new got a.last.read
    → Appends mid logs got → Going new log logs (all ++ a ∷ [])
going_one old None log mid logs all a got ready goes more =
    let g = ready.going in
    let last : Visit = record { attempts = g.attempts ++ a ∷ []; received = g.received ++ got } in
    let after = goes g.received (read_in g.attempts) g.open_one in
    record {
      visits = g.visits ++ last ∷ [];
      in_order = All-push ReadsInOrder g.visits last g.in_order
          (after.0, after.1 ∙ ap (λ (l : List FramingEvent). l ++ after.0) (sym (flat_one (λ (b : Attempt). b.last.read) g.attempts a)));
      in_turn = turn_push false g.visits last g.in_turn ready.begins;
      attempts = [];
      begins = tt;
      used = refl;
      received = [];
      open_one = (refl, refl);
      all_are = ap (λ (l : List Attempt). l ++ a ∷ []) g.all_are ∙ append_assoc (attempts_in g.visits) g.attempts (a ∷ [])
          ∙ sym (flat_one (λ (v : Visit). v.attempts) g.visits last) ∙ sym (append-nil _);
      logged = subst (λ (l : List ℕ). Appends log logs l)
          (append_assoc (received_in g.visits) g.received got ∙ sym (flat_one (λ (v : Visit). v.received) g.visits last) ∙ sym (append-nil _))
          (Appends-trans log mid logs _ _ g.logged more);
    }
going_one old (Some f) log mid logs all a got ready goes more =
    let g = ready.going in
    record {
      visits = g.visits;
      in_order = g.in_order;
      in_turn = g.in_turn;
      attempts = g.attempts ++ a ∷ [];
      begins = ready.begins;
      used = used_push g.attempts a;
      received = g.received ++ got;
      open_one = subst (λ (l : List FramingEvent). Stands (g.received ++ got) l f) (sym (flat_one (λ (b : Attempt). b.last.read) g.attempts a)) (goes g.received (read_in g.attempts) g.open_one);
      all_are = ap (λ (l : List Attempt). l ++ a ∷ []) g.all_are ∙ append_assoc (attempts_in g.visits) g.attempts (a ∷ []);
      logged = subst (λ (l : List ℕ). Appends log logs l) (append_assoc (received_in g.visits) g.received got) (Appends-trans log mid logs _ _ g.logged more);
    }

-- From the start of delivering on: the attempts are counted, they are the takes of the station and its turns in the log, and
-- they sent what was sent.
pub record SoFar (h : History) (d : ℕ) (framer : Option Framed) (begin now log logs : Option (List ℕ)) (first made : StationView) (turns : ℕ) (r : DeliverReport) : Type 0 where
  pub attempts : List Attempt
  pub going : Going framer log logs attempts
  pub tells : ReportsAttempts attempts r
  pub sent : Appends begin now (flat_map sent_by attempts)
  pub in_log : DeliversInLog h d first.seat made.seat attempts
  pub sum : r.taken ≡ r.delivered + r.again + r.rejected
  pub few : r.taken ≤ turns
  pub taken : made.counts.takes ≡ first.counts.takes + r.taken
  pub settled_least : first.counts.settlements ≤ made.counts.settlements
  pub settled_most : made.counts.settlements ≤ first.counts.settlements + r.taken

-- at the start
pub starts : (h : History) (d : ℕ) (begin log : Option (List ℕ)) (first : StationView) (framer : Option Framed) (r : DeliverReport) → framer ≡ None → r ≡ no_attempts
    → SoFar h d framer begin begin log log first first 0 r
starts h d begin log first framer r none new =
    subst (λ (f : Option Framed). SoFar h d f begin begin log log first first 0 r) (sym none)
    (subst (λ (s : DeliverReport). SoFar h d None begin begin log log first first 0 s) (sym new) (record {
      attempts = [];
      going = going_start log;
      tells = record { taken = refl; delivered = refl; again = refl; rejected = refl };
      sent = Appends-nil begin;
      in_log = no_turn h d first.seat first.seat refl;
      sum = refl;
      few = omega arith;
      taken = omega arith;
      settled_least = omega arith;
      settled_most = omega arith;
    }))

-- the sum of one more attempt
pub counted_sum : (o : Outcome) (r : DeliverReport) → r.taken ≡ r.delivered + r.again + r.rejected
    → (counted o r).taken ≡ (counted o r).delivered + (counted o r).again + (counted o r).rejected
counted_sum Delivered r is = omega (arith, is)
counted_sum Again r is = omega (arith, is)
counted_sum Rejected r is = omega (arith, is)

pub counted_taken : (o : Outcome) (r : DeliverReport) → (counted o r).taken ≡ r.taken + 1
counted_taken Delivered r = refl
counted_taken Again r = refl
counted_taken Rejected r = refl

-- after one more attempt
pub attempted : (h : History) (d : ℕ) (old new : Option Framed) (begin mid now log between logs : Option (List ℕ)) (first made more : StationView) (turns : ℕ) (r s : DeliverReport) (o : Outcome)
    → SoFar h d old begin mid log between first made turns r
    → (t : Tries old new mid now between logs o) × DeliversInLog h d made.seat more.seat (t.attempt ∷ []) → more.counts.takes ≡ made.counts.takes + 1
    → (made.counts.settlements ≤ more.counts.settlements) × (more.counts.settlements ≤ made.counts.settlements + 1) → s ≡ counted o r
    → SoFar h d new begin now log logs first more (turns + 1) s
attempted h d old new begin mid now log between logs first made more turns r s o f turn takes settled is =
    let one = turn.0 in
    subst (λ (t : DeliverReport). SoFar h d new begin now log logs first more (turns + 1) t) (sym is) (record {
      attempts = f.attempts ++ one.attempt ∷ [];
      going = going_one (way_of one.attempt old) new log between logs f.attempts one.attempt one.got
          (going_over one.attempt one.attempt.anew old log between f.attempts refl one.was_kept one.is_anew one.is_open f.going) one.goes one.logged;
      tells = tells_more f.attempts r one.attempt o one.outcome f.tells;
      sent = subst (λ (l : List ℕ). Appends begin now l) (sym (flat_one sent_by f.attempts one.attempt)) (Appends-trans begin mid now _ _ f.sent one.sends_block);
      in_log = turns_then h d first.seat made.seat more.seat f.attempts (one.attempt ∷ []) f.in_log turn.1;
      sum = counted_sum o r f.sum;
      few = omega (arith, counted_taken o r, f.few);
      taken = omega (arith, counted_taken o r, f.taken, takes);
      settled_least = omega (arith, f.settled_least, settled.0);
      settled_most = omega (arith, counted_taken o r, f.settled_most, settled.1);
    })

-- after a take that was refused
pub refused : (h : History) (d : ℕ) (old new : Option Framed) (begin mid now log between logs : Option (List ℕ)) (first made more : StationView) (turns : ℕ) (r s : DeliverReport)
    → SoFar h d old begin mid log between first made turns r → (more.counts ≡ made.counts) × (new ≡ old) → DeliversInLog h d made.seat more.seat []
    → Keeps mid now × Keeps between logs → s ≡ r → SoFar h d new begin now log logs first more (turns + 1) s
refused h d old new begin mid now log between logs first made more turns r s f same in_log kept is =
    let takes : more.counts.takes ≡ made.counts.takes = ap (λ (m : Made). m.takes) same.0 in
    let settlements : more.counts.settlements ≡ made.counts.settlements = ap (λ (m : Made). m.settlements) same.0 in
    subst (λ (t : DeliverReport). SoFar h d new begin now log logs first more (turns + 1) t) (sym is)
    (subst (λ (g : Option Framed). SoFar h d g begin now log logs first more (turns + 1) r) (sym same.1) (record {
      attempts = f.attempts;
      going = record {
        visits = f.going.visits;
        in_order = f.going.in_order;
        in_turn = f.going.in_turn;
        attempts = f.going.attempts;
        begins = f.going.begins;
        used = f.going.used;
        received = f.going.received;
        open_one = f.going.open_one;
        all_are = f.going.all_are;
        logged = Appends-kept log between logs _ f.going.logged kept.1;
      };
      tells = f.tells;
      sent = Appends-kept begin mid now _ f.sent kept.0;
      in_log = no_more_turns h d first.seat made.seat more.seat f.attempts f.in_log in_log;
      sum = f.sum;
      few = omega (arith, f.few);
      taken = omega (arith, f.taken, takes);
      settled_least = omega (arith, f.settled_least, settlements);
      settled_most = omega (arith, f.settled_most, settlements);
    }))

-- at the end
pub delivers : (h : History) (d : ℕ) (framer : Option Framed) (begin mid now log between logs : Option (List ℕ)) (first made : StationView) (end : SeatView) (turns : ℕ) (r s : DeliverReport)
    → SoFar h d framer begin mid log between first made turns r → DeliversInLog h d made.seat end [] → Keeps mid now → Keeps between logs
    → s.taken ≡ r.taken → s.delivered ≡ r.delivered → s.again ≡ r.again → s.rejected ≡ r.rejected
    → (t : Delivers begin now log logs s) × DeliversInLog h d first.seat end (attempts_in t.visits)
delivers h d framer begin mid now log between logs first made end turns r s f in_log same_sent same_log taken delivered again rejected =
    let g = f.going in
    let last : Visit = record { attempts = g.attempts; received = g.received } in
    let all : f.attempts ≡ attempts_in (g.visits ++ last ∷ []) = g.all_are ∙ sym (flat_one (λ (v : Visit). v.attempts) g.visits last) in (
      record {
        visits = g.visits ++ last ∷ [];
        in_order = All-push ReadsInOrder g.visits last g.in_order (last_reads framer g.received g.attempts g.open_one);
        in_turn = turn_push false g.visits last g.in_turn g.begins;
        tells = subst (λ (l : List Attempt). ReportsAttempts l s) all
            (record { taken = taken ∙ f.tells.taken; delivered = delivered ∙ f.tells.delivered; again = again ∙ f.tells.again; rejected = rejected ∙ f.tells.rejected });
        sends_blocks = subst (λ (l : List Attempt). Appends begin now (flat_map sent_by l)) all (Appends-kept begin mid now _ f.sent same_sent);
        logged = subst (λ (l : List ℕ). Appends log logs l) (sym (flat_one (λ (v : Visit). v.received) g.visits last)) (Appends-kept log between logs _ g.logged same_log);
      },
      subst (λ (l : List Attempt). DeliversInLog h d first.seat end l) all (no_more_turns h d first.seat made.seat end f.attempts f.in_log in_log),
    )
