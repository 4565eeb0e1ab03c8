use Rattle.std.proofs.Common.{rules, ◌≡◌, ◌<◌, false, Some, ap, sym, ◌∙◌, arith}
use Rattle.mllp_frame.specs.Framing.{IsBlockData}
use Rattle.judge_core.specs.Delivering.{destinations_of}
use Rattle.judge_core.specs.Judging.{verdict as decided}
use Rattle.event_log.specs.Answers.{arrival_answer}
use Rattle.event_log.specs.History.{control_id_of, next_place, plan_in_force}
use Rattle.event_log.specs.Room.{is_full, owed, own, committed_by_new}
use Rattle.event_log.proofs.Events.{arrivable-follows}
use Rattle.book_core.specs.inner.Sending.{goes_to, has_key}
use Rattle.book_core.proofs.Gains.{gain-added, gain-owed, key-kept}
use Rattle.book_core.proofs.KeepingArrivals.{arrived-next, arrived-owed, arrived-within, few-received, few-repeats, few-slots, kept-arrived, key-unknown, keys-arrived}
use Rattle.book_core.proofs.book.Book.add_arrival.Goals as goal

pub add_gain-requires-clause-next : goal.add_gain-requires-clause-next
add_gain-requires-clause-next g c =
    let h = c.self.inside.log.history in
    let channel = c.args.judged.now.channel in
    let raw = c.args.judged.now.raw in
    let enough : is_full h channel raw ≡ false = ap (λ k. is_full k channel raw) c.self.view_is ∙ c.requires.room in
    let told : arrival_answer h channel raw ≡ Some c.args.told = ap (λ k. arrival_answer k channel raw) c.self.view_is ∙ c.requires.told in
    let fits : IsBlockData raw = rw c.raw.ensures.value at c.raw.ensures.fits in
    arrived-next _ _ _ _ _ _ c.self.invariant c.args.conn channel raw c.args.told fits enough told (control_id_of raw) (decided c.args.judged.now.plan channel raw) c.args.gain c.requires.gain

pub add_gain-requires-clause-unknown : goal.add_gain-requires-clause-unknown
add_gain-requires-clause-unknown g c =
    let h = c.self.inside.log.history in
    let channel = c.args.judged.now.channel in
    let raw = c.args.judged.now.raw in
    let told : arrival_answer h channel raw ≡ Some c.args.told = ap (λ k. arrival_answer k channel raw) c.self.view_is ∙ c.requires.told in
    key-unknown _ _ _ _ _ _ c.self.invariant channel raw c.key.result.now c.args.told (has_key c.args.gain) told (key-kept c.args.told (control_id_of raw) (decided c.args.judged.now.plan channel raw) c.args.gain c.requires.gain) c.key.ensures

pub count_arrival-requires-clause-few : goal.count_arrival-requires-clause-few
count_arrival-requires-clause-few g c = few-received _ _ _ _ _ _ c.self.invariant _ (search rules)

pub count_arrival-requires-clause-few_repeats : goal.count_arrival-requires-clause-few_repeats
count_arrival-requires-clause-few_repeats g c = few-repeats _ _ _ _ _ _ c.self.invariant _ (search rules)

pub count_arrival-requires-clause-few_slots : goal.count_arrival-requires-clause-few_slots
count_arrival-requires-clause-few_slots g c = few-slots _ _ _ _ _ _ c.self.invariant

pub overflow_add-owed : goal.overflow_add-owed
overflow_add-owed g c =
    let h = c.self.inside.log.history in
    let channel = c.args.judged.now.channel in
    let raw = c.args.judged.now.raw in
    let enough : is_full h channel raw ≡ false = ap (λ k. is_full k channel raw) c.self.view_is ∙ c.requires.room in
    let told : arrival_answer h channel raw ≡ Some c.args.told = ap (λ k. arrival_answer k channel raw) c.self.view_is ∙ c.requires.told in
    let fits : IsBlockData raw = rw c.raw.ensures.value at c.raw.ensures.fits in
    let plan : c.args.judged.now.plan ≡ plan_in_force h = c.requires.same_plan ∙ ap plan_in_force (sym c.self.view_is) in
    let before : c.owed.result ≡ owed h = c.owed.ensures.value ∙ ap owed c.reserve.ensures.history in
    let own_is : c.args.own ≡ own h channel raw =
    gain-owed h c.args.judged.now.plan channel raw c.args.told (control_id_of raw) c.args.gain c.args.own plan told c.requires.gain
    (c.requires.own ∙ ap (λ k. committed_by_new (plan_in_force k) (destinations_of (goes_to c.args.gain))) (sym c.self.view_is)) in
    omega (arith, before, c.self.invariant.bound, arrived-within _ _ _ _ _ _ c.self.invariant c.args.conn channel raw c.args.told fits enough told c.args.own own_is)

pub push-requires-clause-owed : goal.push-requires-clause-owed
push-requires-clause-owed g c =
    let h = c.self.inside.log.history in
    let channel = c.args.judged.now.channel in
    let raw = c.args.judged.now.raw in
    let enough : is_full h channel raw ≡ false = ap (λ k. is_full k channel raw) c.self.view_is ∙ c.requires.room in
    let told : arrival_answer h channel raw ≡ Some c.args.told = ap (λ k. arrival_answer k channel raw) c.self.view_is ∙ c.requires.told in
    let fits : IsBlockData raw = rw c.raw.ensures.value at c.raw.ensures.fits in
    let plan : c.args.judged.now.plan ≡ plan_in_force h = c.requires.same_plan ∙ ap plan_in_force (sym c.self.view_is) in
    let before : c.owed.result ≡ owed h = c.owed.ensures.value ∙ ap owed c.reserve.ensures.history in
    let own_is : c.args.own ≡ own h channel raw =
    gain-owed h c.args.judged.now.plan channel raw c.args.told (control_id_of raw) c.args.gain c.args.own plan told c.requires.gain
    (c.requires.own ∙ ap (λ k. committed_by_new (plan_in_force k) (destinations_of (goes_to c.args.gain))) (sym c.self.view_is)) in
    rw (c.reserve.ensures.history, c.channel-channel.ensures.value, c.in_ok-kept.ensures ∙ c.raw-2.ensures.value)
    (omega (arith, before, own_is, arrived-owed _ _ _ _ _ _ c.self.invariant c.args.conn channel raw c.args.told fits enough told))

pub push-requires-clause-within : goal.push-requires-clause-within
push-requires-clause-within g c =
    let h = c.self.inside.log.history in
    let channel = c.args.judged.now.channel in
    let raw = c.args.judged.now.raw in
    let enough : is_full h channel raw ≡ false = ap (λ k. is_full k channel raw) c.self.view_is ∙ c.requires.room in
    let told : arrival_answer h channel raw ≡ Some c.args.told = ap (λ k. arrival_answer k channel raw) c.self.view_is ∙ c.requires.told in
    let fits : IsBlockData raw = rw c.raw.ensures.value at c.raw.ensures.fits in
    let plan : c.args.judged.now.plan ≡ plan_in_force h = c.requires.same_plan ∙ ap plan_in_force (sym c.self.view_is) in
    let before : c.owed.result ≡ owed h = c.owed.ensures.value ∙ ap owed c.reserve.ensures.history in
    let own_is : c.args.own ≡ own h channel raw =
    gain-owed h c.args.judged.now.plan channel raw c.args.told (control_id_of raw) c.args.gain c.args.own plan told c.requires.gain
    (c.requires.own ∙ ap (λ k. committed_by_new (plan_in_force k) (destinations_of (goes_to c.args.gain))) (sym c.self.view_is)) in
    rw (c.reserve.ensures.history, before) (arrived-within _ _ _ _ _ _ c.self.invariant c.args.conn channel raw c.args.told fits enough told c.args.own own_is)

pub invariant_of-self-2 : goal.invariant_of-self-2
invariant_of-self-2 g c =
    let h = c.self.inside.log.history in
    let channel = c.args.judged.now.channel in
    let raw = c.args.judged.now.raw in
    let enough : is_full h channel raw ≡ false = ap (λ k. is_full k channel raw) c.self.view_is ∙ c.requires.room in
    let told : arrival_answer h channel raw ≡ Some c.args.told = ap (λ k. arrival_answer k channel raw) c.self.view_is ∙ c.requires.told in
    let fits : IsBlockData raw = rw c.raw.ensures.value at c.raw.ensures.fits in
    let plan : c.args.judged.now.plan ≡ plan_in_force h = c.requires.same_plan ∙ ap plan_in_force (sym c.self.view_is) in
    let added = gain-added h c.args.judged.now.plan channel raw c.args.told (control_id_of raw) c.args.gain plan c.requires.gain in
    let few : channel < 64 = let known = rw plan at c.channel-channel.ensures.known in omega (arith, known, c.channel-channel.ensures.value, c.self.invariant.sound.plan.few_channels) in
    rw (c.push.ensures.history, c.reserve.ensures.history, c.channel-channel.ensures.value, c.in_ok-kept.ensures ∙ c.raw-2.ensures.value)
    (kept-arrived _ _ _ _ _ _ c.self.invariant c.args.conn channel raw c.args.told fits enough told c.args.gain _ _ _ _ few (rw plan at c.requires.gain) (rw (c.channel-channel.ensures.value, c.in_ok-raw.ensures ∙ c.raw.ensures.value) at c.in_ok-add_gain.ensures.row)
    (keys-arrived _ _ _ _ _ _ c.self.invariant c.args.conn channel raw c.args.told fits enough told c.key.result.now (has_key c.args.gain) c.len-place.result _
    (key-kept c.args.told (control_id_of raw) (decided c.args.judged.now.plan channel raw) c.args.gain c.requires.gain) c.key.ensures (c.len-place.ensures ∙ ap next_place c.reserve.ensures.history) c.in_ok-add_gain.ensures.key c.in_ok-add_gain.ensures.no_key)
    (rw (c.channel-channel.ensures.value, c.deliveries.ensures.value, added) at c.count_arrival.ensures)
    (omega (arith, c.in_ok-reserve.ensures.ok, c.push.ensures.room)))

pub returns-clause-follows : goal.returns-clause-follows
returns-clause-follows g c =
    let fits : IsBlockData c.args.judged.now.raw = rw c.raw.ensures.value at c.raw.ensures.fits in
    arrivable-follows c.args.self.now c.args.conn c.args.judged.now.channel c.args.judged.now.raw c.args.told (record { fits = fits; room = c.requires.room; answered = c.requires.told })
