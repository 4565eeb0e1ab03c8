-- What handling one event does.
use Rattle.std.proofs.Common.{◌≡◌, ℕ, ◌+◌, Bool, true, false, List, [], ◌∷◌, ◌++◌, length, map, take, drop, take-append-drop, None, Some, Result, Ok, Err, OnOk, OnErr, IfOk, IfErr, refl, sym, ap, ◌∙◌, subst, append_assoc, append-nil, length-append, arith}
use Rattle.std.specs.Prelude.{slice_get}
use Rattle.std.proofs.lemmas.List.{map-append}
use Rattle.conn_core.specs.declared.booking.Unbooked.{Unbooked}
use Rattle.conn_core.specs.declared.booking.Unbooked.TheVariants.{Refused, Repeat}
use Rattle.book_core.specs.declared.receipt.NotBooked.TheVariants.{NoMemory, Full, PlanChanged}
use Rattle.book_core.specs.declared.receipt.Receipt.{Receipt}
use Rattle.event_log.specs.declared.entry.Entry.TheVariants.{Arrival}
use Rattle.event_log.specs.declared.entry.Told.{Told}
use Rattle.event_log.specs.History.{History, followed_by, plan_in_force}
use Rattle.event_log.proofs.Events.{arrivable-follows}
use Rattle.event_log.proofs.Following.{plan-kept_all}
use Rattle.event_log.specs.Room.{is_full}
use Rattle.judge_core.specs.Judging.{Judgement, is_bookable}
use Rattle.mllp_frame.specs.Event.{FramingEvent, block}
use Rattle.mllp_frame.specs.Framing.{IsBlockData, blocks}
use Rattle.conn_core.specs.Booking.{OutcomeAtBook, Books, arrival_by}
use Rattle.conn_core.specs.Messages.{message_of}
use Rattle.conn_core.specs.Replies.{Answer, dues, dues_of, numbered}
use Rattle.conn_core.specs.inner.Replies.{answer_to, told_by}
use Rattle.engine_model.proofs.Duly.{dues-append}
use Rattle.engine_model.specs.declared.connection.Answered.{Answered}
use Rattle.engine_model.specs.declared.connection.Transcript.{Transcript}
use Rattle.engine_model.specs.Steps.{IsAnswered, EndsWithin, history_with}
use Rattle.engine_model.specs.inner.Amid.{Amid}
use Rattle.engine_model.specs.inner.Handling.{Handles, HandlesFront, IsBooked, IsCounted, answer_of, answer_with, said}
use Rattle.engine_model.proofs.Amidst.{amid-answered, amid-cut, amid-ends, amid-passed}

-- an event that brings no message
pub handles-none : (conn channel now : ℕ) (e : FramingEvent) (h : History) (w : Transcript) → message_of e ≡ None → Handles conn channel now (e ∷ []) h h w w
handles-none conn channel now e h w none handled from c stream same amid = amid-passed conn now handled from h c (said channel stream false w) amid e none

-- nothing more was handled
pub handles-stop : (conn channel now : ℕ) (events : List FramingEvent) (h : History) (w w' : Transcript) → w'.answers.items ≡ w.answers.items → w'.replies.bytes ≡ w.replies.bytes → HandlesFront conn channel now events h h w w'
handles-stop conn channel now events h w w' answers output handled later from c bytes same amid are =
    subst (λ l. EndsWithin conn l now from h c (said channel (c.stream ++ bytes) true w')) (append-nil bytes)
    (amid-ends conn now handled from h c (said channel (c.stream ++ bytes) false w) amid bytes [] (events ++ later) (said channel (c.stream ++ bytes) true w')
    refl refl (ap (map answer_of) answers) output refl (are ∙ ap (λ l. blocks c.stream ++ l) (append_assoc handled events later)))

brings : (raw : List ℕ) → is_bookable raw ≡ true → message_of (block raw) ≡ Some raw
brings raw is = rw is refl

-- the number of the next acknowledgment
next_made : (w : Transcript) → IsCounted w → w.replies.made + 1 ≡ 1 + length (dues (map answer_of w.answers.items))
next_made w counted = let made : w.replies.made ≡ length (dues (map answer_of w.answers.items)) = counted.made in omega arith

module _ (conn channel now : ℕ) (raw : List ℕ) (outcome : Result Told Unbooked) (h h' : History) (w w' : Transcript)
    (bookable : is_bookable raw ≡ true) (books : IsBooked conn channel now raw outcome h h' w.answers.items w'.answers.items) (counted : IsCounted w) where
  abbrev a : Answer
  a = answer_with raw outcome now

  -- a message that was answered
  pub handles-message : w'.replies.bytes ≡ w.replies.bytes ++ numbered conn (w.replies.made + 1) (dues_of a) → Handles conn channel now (block raw ∷ []) h h' w w'
  handles-message output handled from c stream same amid =
      let may : IsAnswered conn c.channel h raw outcome = subst (λ n. IsAnswered conn n h raw outcome) (sym same) books.may in
      let is : history_with conn c.channel h raw outcome ≡ h' = ap (λ n. history_with conn n h raw outcome) same ∙ sym books.booked in
      subst (λ g. Amid conn now (handled ++ block raw ∷ []) from g c (said channel stream false w')) is
      (amid-answered conn now handled from h c (said channel stream false w) amid (block raw) raw outcome (brings raw bookable) may (said channel stream false w')
      refl books.kept (output ∙ ap (λ n. w.replies.bytes ++ numbered conn n (dues_of a)) (next_made w counted)) refl)

  -- or with the first of its acknowledgments, as the connection has to end
  pub handles-cut : (count : ℕ) → w'.replies.bytes ≡ w.replies.bytes ++ numbered conn (w.replies.made + 1) (take count (dues_of a)) → HandlesFront conn channel now (block raw ∷ []) h h' w w'
  handles-cut count output handled later from c bytes same amid are =
      let may : IsAnswered conn c.channel h raw outcome = subst (λ n. IsAnswered conn n h raw outcome) (sym same) books.may in
      let is : history_with conn c.channel h raw outcome ≡ h' = ap (λ n. history_with conn n h raw outcome) same ∙ sym books.booked in
      subst (λ g. EndsWithin conn bytes now from g c (said channel (c.stream ++ bytes) true w')) is
      (amid-cut conn now handled from h c (said channel (c.stream ++ bytes) false w) amid (block raw) raw outcome (brings raw bookable) may bytes later
      (take count (dues_of a)) (drop count (dues_of a)) (said channel (c.stream ++ bytes) true w') refl refl books.kept (sym (take-append-drop count (dues_of a)))
      (output ∙ ap (λ n. w.replies.bytes ++ numbered conn n (take count (dues_of a))) (next_made w counted)) refl are)

-- ---- for the two ways in which a call returns

pub on_err_always : {T E : Type 0} {P : Type 0} (r : Result T E) → P → OnErr r P
on_err_always (Ok x) p = tt
on_err_always (Err e) p = p

pub on_ok_one : {T E : Type 0} {P S : Type 0} (r : Result T E) → (P → S) → OnOk r P → OnOk r S
on_ok_one (Ok x) f p = f p
on_ok_one (Err e) f p = tt

pub on_err_one : {T E : Type 0} {P S : Type 0} (r : Result T E) → (P → S) → OnErr r P → OnErr r S
on_err_one (Ok x) f p = tt
on_err_one (Err e) f p = f p

pub handles-left : (conn channel now : ℕ) (events : List FramingEvent) (h h' : History) (w w' : Transcript) → h' ≡ h → w'.answers.items ≡ w.answers.items → w'.replies.bytes ≡ w.replies.bytes → HandlesFront conn channel now events h h' w w'
handles-left conn channel now events h h' w w' same answers output handled later from c bytes on amid are =
    subst (λ g. EndsWithin conn bytes now from g c (said channel (c.stream ++ bytes) true w')) (sym same) (handles-stop conn channel now events h w w' answers output handled later from c bytes on amid are)

-- ---- event after event

pub handles-nothing : (conn channel now : ℕ) (h : History) (w : Transcript) → Handles conn channel now [] h h w w
handles-nothing conn channel now h w handled from c stream same amid = subst (λ l. Amid conn now l from h c (said channel stream false w)) (sym (append-nil handled)) amid

pub handles-more : (conn channel now : ℕ) (xs ys : List FramingEvent) (h h' h'' : History) (w w' w'' : Transcript) → Handles conn channel now xs h h' w w' → Handles conn channel now ys h' h'' w' w'' → Handles conn channel now (xs ++ ys) h h'' w w''
handles-more conn channel now xs ys h h' h'' w w' w'' one two handled from c stream same amid =
    subst (λ l. Amid conn now l from h'' c (said channel stream false w'')) (append_assoc handled xs ys) (two (handled ++ xs) from c stream same (one handled from c stream same amid))

-- after these events the connection has to end
pub front-more : (conn channel now : ℕ) (xs ys zs all : List FramingEvent) (h h' h'' : History) (w w' w'' : Transcript) → all ≡ xs ++ (ys ++ zs) → Handles conn channel now xs h h' w w' → HandlesFront conn channel now ys h' h'' w' w'' → HandlesFront conn channel now all h h'' w w''
front-more conn channel now xs ys zs all h h' h'' w w' w'' whole one two handled later from c bytes same amid are =
    two (handled ++ xs) (zs ++ later) from c bytes same (one handled from c (c.stream ++ bytes) same amid)
    (are
    ∙ ap (λ l. blocks c.stream ++ ((handled ++ l) ++ later)) whole
    ∙ ap (λ l. blocks c.stream ++ l)
    (append_assoc handled (xs ++ (ys ++ zs)) later
    ∙ ap (λ l. handled ++ l) (append_assoc xs (ys ++ zs) later ∙ ap (λ l. xs ++ l) (append_assoc ys zs later))
    ∙ sym (append_assoc handled xs (ys ++ (zs ++ later)))
    ∙ sym (append_assoc (handled ++ xs) ys (zs ++ later))))

pub first_event : (events : List FramingEvent) (e : FramingEvent) → Some e ≡ slice_get events 0 → events ≡ e ∷ drop 1 events
first_event [] e is = absurd cc
first_event (x ∷ events) e is = let same : x ≡ e = cc in ap (λ y. y ∷ events) same

-- ---- what becomes of a message

none_booked : (h h' : History) → Books h h' [] → h' ≡ h
none_booked h h' more = more.history ∙ ap (λ es. record { opening = h.opening; entries = es }) (append-nil h.entries)

room_left : (h : History) (channel : ℕ) (raw : List ℕ) → (is_full h channel raw ≡ true → ⊥) → is_full h channel raw ≡ false
room_left h channel raw other = by (is_full h channel raw) other
  where
    by : (b : Bool) → (b ≡ true → ⊥) → b ≡ false
    by true never = absurd (never refl)
    by false never = refl

module _ (conn now : ℕ) (j : Judgement) (h h' : History) (old new : List Answered) (same : j.plan ≡ plan_in_force h) (data_is : IsBlockData j.raw) where
  -- a message that was judged by the plan in force is told what may be told, is booked so, and its answer is kept
  pub is_booked : (o : Result Receipt Unbooked) → IfOk o (λ r. (r.conn ≡ conn) × (r.channel ≡ j.channel) × (r.raw ≡ j.raw))
      → IfOk o (λ r. Books h h' (r ∷ [])) → OnErr o (Books h h' []) → IfOk o (λ r. OutcomeAtBook h j (Ok r.told)) → IfErr o (λ e. OutcomeAtBook h j (Err e))
      → map answer_of new ≡ map answer_of old ++ answer_with j.raw (told_by o) now ∷ [] → IsBooked conn j.channel now j.raw (told_by o) h h' old new
  is_booked (Ok r) is more none told refused kept =
      record {
        may = arrivable-follows h conn j.channel j.raw r.told (record { fits = data_is; room = room_left h j.channel j.raw (λ f. let e = told.full.1 (same, f) in absurd cc); answered = told.told });
        booked =
            more.history
            ∙ ap (λ c. followed_by h (Arrival c r.channel r.raw r.told)) is.0
            ∙ ap (λ n. followed_by h (Arrival conn n r.raw r.told)) is.1
            ∙ ap (λ l. followed_by h (Arrival conn j.channel l r.told)) is.2;
        kept = kept;
      }
  is_booked (Err (Refused Full)) is more none told refused kept = let full = refused.full.0 refl in record { may = full.1; booked = none_booked h h' none; kept = kept }
  is_booked (Err (Refused NoMemory)) is more none told refused kept =
      record {
        may = room_left h j.channel j.raw (λ f. let e = refused.full.1 (same, f) in absurd cc);
        booked = none_booked h h' none;
        kept = kept;
      }
  is_booked (Err (Refused PlanChanged)) is more none told refused kept = absurd (refused.plan.0 refl same)
  is_booked (Err (Repeat place)) is more none told refused kept = absurd (refused.booked place refl)

-- the acknowledgments are counted on
pub counted-on : (raw : List ℕ) (now : ℕ) (o : Result Receipt Unbooked) (w w' : Transcript) → IsCounted w → map answer_of w'.answers.items ≡ map answer_of w.answers.items ++ answer_with raw (told_by o) now ∷ []
    → w'.replies.made ≡ w.replies.made + length (dues_of (answer_to raw o now)) → IsCounted w'
counted-on raw now o w w' counted kept made =
    let before : List Answer = map answer_of w.answers.items in
    let one : Answer = answer_to raw o now in
    let sizes : length (dues (map answer_of w'.answers.items)) ≡ length (dues (map answer_of w.answers.items)) + length (dues_of (answer_to raw o now)) =
    ap (λ l. length (dues l)) kept ∙ ap length (dues-append before (one ∷ [])) ∙ length-append (dues before) (dues (one ∷ []))
    ∙ ap (λ l. length (dues before) + length l) (append-nil (dues_of one)) in
    record { made = omega (arith, made, sizes, counted.made) }

-- one answer more is kept
pub kept-on : (old reserved new : List Answered) (a : Answered) (raw : List ℕ) (outcome : Result Told Unbooked) (now : ℕ) → reserved ≡ old → new ≡ reserved ++ a ∷ [] → a.raw ≡ raw → a.outcome ≡ outcome → a.moment ≡ now
    → map answer_of new ≡ map answer_of old ++ answer_with raw outcome now ∷ []
kept-on old reserved new a raw outcome now same grown one two three =
    let is : answer_of a ≡ answer_with raw outcome now =
    ap (λ l. record { raw = l; outcome = a.outcome; moment = a.moment }) one ∙ ap (λ o. record { raw = raw; outcome = o; moment = a.moment }) two ∙ ap (λ m. record { raw = raw; outcome = outcome; moment = m }) three in
    ap (map answer_of) (grown ∙ ap (λ l. l ++ a ∷ []) same) ∙ map-append answer_of old (a ∷ []) ∙ ap (λ x. map answer_of old ++ x ∷ []) is

-- the plan in force stays
pub plan-kept : (h h' : History) (o : Result Receipt Unbooked) → IfOk o (λ r. Books h h' (r ∷ [])) → OnErr o (Books h h' []) → plan_in_force h' ≡ plan_in_force h
plan-kept h h' (Ok r) more none = ap plan_in_force more.history ∙ plan-kept_all h.opening.plan h.entries (arrival_by r ∷ []) refl
plan-kept h h' (Err e) more none = ap plan_in_force (none_booked h h' none)

-- a text that is no message, and one that is an acknowledgment, bring none
pub no_message : (raw : List ℕ) → is_bookable raw ≡ false → message_of (block raw) ≡ None
no_message raw is = rw is refl
