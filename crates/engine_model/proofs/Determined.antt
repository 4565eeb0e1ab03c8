-- Apart from want of memory a piece does one thing.
use Rattle.std.proofs.Common.{◌≡◌, ◌≢◌, ℕ, ◌+◌, List, [], ◌∷◌, ◌++◌, length, map, Result, Ok, Err, refl, sym, ap, ◌∙◌, subst, append_assoc}
use Rattle.std.proofs.lemmas.List.{append_cancel_left}
use Rattle.std.proofs.lemmas.Option.{same_Some}
use Rattle.conn_core.specs.declared.booking.Unbooked.{Unbooked}
use Rattle.conn_core.specs.declared.booking.Unbooked.TheVariants.{Refused, Repeat}
use Rattle.book_core.specs.declared.receipt.NotBooked.TheVariants.{NoMemory, Full, PlanChanged}
use Rattle.event_log.specs.declared.entry.Told.{Told}
use Rattle.event_log.specs.History.{History}
use Rattle.conn_core.specs.Messages.{messages}
use Rattle.conn_core.specs.Replies.{Answer, dues, numbered, replies}
use Rattle.conn_core.proofs.Numbering.{numbered-append}
use Rattle.engine_model.proofs.Duly.{dues-append}
use Rattle.engine_model.specs.Run.{Connection}
use Rattle.engine_model.specs.inner.Promise.{IsFrontOf, NoneLacked}
use Rattle.event_log.proofs.Events.{arrival-room, arrival-told}
use Rattle.engine_model.specs.Steps.{AreAnswered, IsAnswered, ReadsOn, RepliesFront, after_answer, after_answers}

abbrev raws : List Answer → List (List ℕ)
raws answers = map (λ (a : Answer). a.raw) answers

outcome-same : (conn : ℕ) (h : History) (channel : ℕ) (raw : List ℕ) (o p : Result Told Unbooked) → IsAnswered conn channel h raw o → IsAnswered conn channel h raw p → o ≢ Err (Refused NoMemory) → p ≢ Err (Refused NoMemory) → o ≡ p
outcome-same conn h channel raw (Ok s) (Ok t) one two some some' = let same : s ≡ t = same_Some s t (sym (arrival-told h conn channel raw s one.replied) ∙ arrival-told h conn channel raw t two.replied) in ap (λ t. Ok t) same
outcome-same conn h channel raw (Ok s) (Err (Refused NoMemory)) one two some some' = absurd (some' refl)
outcome-same conn h channel raw (Ok s) (Err (Refused Full)) one two some some' = let room = arrival-room h conn channel raw s one.replied in absurd cc
outcome-same conn h channel raw (Ok s) (Err (Refused PlanChanged)) one two some some' = absurd two
outcome-same conn h channel raw (Ok s) (Err (Repeat place)) one two some some' = absurd two
outcome-same conn h channel raw (Err (Refused NoMemory)) p one two some some' = absurd (some refl)
outcome-same conn h channel raw (Err (Refused Full)) (Ok t) one two some some' = let room = arrival-room h conn channel raw t two.replied in absurd cc
outcome-same conn h channel raw (Err (Refused Full)) (Err (Refused NoMemory)) one two some some' = absurd (some' refl)
outcome-same conn h channel raw (Err (Refused Full)) (Err (Refused Full)) one two some some' = refl
outcome-same conn h channel raw (Err (Refused Full)) (Err (Refused PlanChanged)) one two some some' = absurd two
outcome-same conn h channel raw (Err (Refused Full)) (Err (Repeat place)) one two some some' = absurd two
outcome-same conn h channel raw (Err (Repeat place)) p one two some some' = absurd one
outcome-same conn h channel raw (Err (Refused PlanChanged)) p one two some some' = absurd one

answer-same : (a b : Answer) → a.raw ≡ b.raw → a.outcome ≡ b.outcome → a.moment ≡ b.moment → a ≡ b
answer-same a b one two three =
    ap (λ r. record { raw = r; outcome = a.outcome; moment = a.moment }) one
    ∙ ap (λ o. record { raw = b.raw; outcome = o; moment = a.moment }) two
    ∙ ap (λ m. record { raw = b.raw; outcome = b.outcome; moment = m }) three

pub answers-same : (conn channel now : ℕ) (h : History) (xs ys : List Answer) → raws xs ≡ raws ys → AreAnswered conn channel now h xs → AreAnswered conn channel now h ys → NoneLacked xs → NoneLacked ys → xs ≡ ys
answers-same conn channel now h [] [] same one two some some' = refl
answers-same conn channel now h [] (y ∷ ys) same one two some some' = absurd cc
answers-same conn channel now h (x ∷ xs) [] same one two some some' = absurd cc
answers-same conn channel now h (x ∷ xs) (y ∷ ys) same one two some some' =
    let raw : x.raw ≡ y.raw = cc in
    let rest : raws xs ≡ raws ys = cc in
    let outcome : x.outcome ≡ y.outcome = outcome-same conn h channel x.raw x.outcome y.outcome one.0 (subst (λ r. IsAnswered conn channel h r y.outcome) (sym raw) two.0) some.0 some'.0 in
    let is : x ≡ y = answer-same x y raw outcome (one.1 ∙ sym two.1) in
    let onward : AreAnswered conn channel now (after_answer conn channel h x) ys = subst (λ (a : Answer). AreAnswered conn channel now (after_answer conn channel h a) ys) (sym is) two.2 in
    ap (λ a. a ∷ xs) is ∙ ap (λ l. y ∷ l) (answers-same conn channel now (after_answer conn channel h x) xs ys rest one.2 onward some.1 some'.1)

connection-same : (c d : Connection) → c.channel ≡ d.channel → c.stream ≡ d.stream → c.answers ≡ d.answers → c.output ≡ d.output → c.ended ≡ d.ended → c ≡ d
connection-same c d one two three four five =
    ap (λ n. record { channel = n; stream = c.stream; answers = c.answers; output = c.output; ended = c.ended }) one
    ∙ ap (λ l. record { channel = d.channel; stream = l; answers = c.answers; output = c.output; ended = c.ended }) two
    ∙ ap (λ l. record { channel = d.channel; stream = d.stream; answers = l; output = c.output; ended = c.ended }) three
    ∙ ap (λ l. record { channel = d.channel; stream = d.stream; answers = d.answers; output = l; ended = c.ended }) four
    ∙ ap (λ b. record { channel = d.channel; stream = d.stream; answers = d.answers; output = d.output; ended = b }) five

-- two ends of reading one piece on are the same, where no message was told that memory was refused
pub reads_on-same : (conn : ℕ) (bytes : List ℕ) (now : ℕ) (h g g' : History) (c d d' : Connection) (s : ReadsOn conn bytes now h g c d) (t : ReadsOn conn bytes now h g' c d') → NoneLacked s.new → NoneLacked t.new → (g ≡ g') × (d ≡ d')
reads_on-same conn bytes now h g g' c d d' s t some some' =
    let stream : d.stream ≡ d'.stream = s.stream ∙ sym t.stream in
    let texts : raws s.new ≡ raws t.new = append_cancel_left (messages c.stream) (raws s.new) (raws t.new) (sym s.each_once ∙ ap messages stream ∙ t.each_once) in
    let same : s.new ≡ t.new = answers-same conn c.channel now h s.new t.new texts s.answered t.answered some some' in (
      s.booked ∙ ap (after_answers conn c.channel h) same ∙ sym t.booked,
      connection-same d d' (s.channel ∙ sym t.channel) stream
          (s.answers ∙ ap (λ l. c.answers ++ l) same ∙ sym t.answers)
          (s.output ∙ ap (λ l. c.output ++ numbered conn (1 + length (dues c.answers)) (dues l)) same ∙ sym t.output)
          (s.stays ∙ sym t.stays),
    )

-- what a connection that has ended was sent is the front of its replies
pub front-replies : (conn : ℕ) (answers : List Answer) (text : List ℕ) → RepliesFront conn 1 answers text → IsFrontOf text (replies conn answers)
front-replies conn answers text x =
    record {
      rest = numbered conn (1 + length (dues x.replied ++ x.sent)) x.unsent;
      goes_on = ap (replies conn) x.all
          ∙ ap (numbered conn 1) (dues-append x.replied x.last ∙ ap (λ l. dues x.replied ++ l) x.due ∙ sym (append_assoc (dues x.replied) x.sent x.unsent))
          ∙ numbered-append conn 1 (dues x.replied ++ x.sent) x.unsent
          ∙ ap (λ l. l ++ numbered conn (1 + length (dues x.replied ++ x.sent)) x.unsent) (sym x.text_is);
    }
