use Rattle.std.proofs.Common.{◌≡◌, ◌∙◌, false, true, inl, refl, rules, sym, ap}
use Rattle.event_log.specs.History.{control_id_of, plan_in_force}
use Rattle.event_log.specs.Room.{is_full}
use Rattle.event_log.specs.Answers.{arrival_answer}
use Rattle.event_log.specs.Event.{arrive}
use Rattle.event_log.proofs.Events.{arrival-answered, arrival-full}
use Rattle.book_core.proofs.Answering.{asked-full, memory-last, told-accepting}
use Rattle.book_core.proofs.Gains.{gain-owed}
use Rattle.book_core.proofs.book.Book.book_arrival.Goals as goal

pub gain_of-gain-requires : goal.gain_of-gain-requires
gain_of-gain-requires g c = told-accepting c.self.inside.log.history c.args.judged.now.plan c.args.judged.now.channel c.args.judged.now.raw _ _ (c.requires.same_plan ∙ ap plan_in_force (sym c.self.view_is)) refl c.told-told.ensures

pub add_arrival-requires-clause-room : goal.add_arrival-requires-clause-room
add_arrival-requires-clause-room g c =
    let room : is_full c.self.inside.log.history c.args.judged.now.channel c.args.judged.now.raw ≡ false =
    asked-full _ _ _ _ _ _ (gain-owed _ _ _ _ _ (control_id_of c.args.judged.now.raw) c.gain_of-gain.result _ (c.requires.same_plan ∙ ap plan_in_force (sym c.self.view_is)) c.told-told.ensures c.gain_of-gain.ensures c.owed_by-own.ensures) c.room.ensures c.if-not-room.false in
    sym (ap (λ h. is_full h c.args.judged.now.channel c.args.judged.now.raw) c.self.view_is) ∙ room

pub returns-then-not-room-clause-does : goal.returns-then-not-room-clause-does
returns-then-not-room-clause-does g c =
    let past : is_full c.self.inside.log.history c.args.judged.now.channel c.args.judged.now.raw ≡ true =
    asked-full _ _ _ _ _ _ (gain-owed _ _ _ _ _ (control_id_of c.args.judged.now.raw) c.gain_of-gain.result _ (c.requires.same_plan ∙ ap plan_in_force (sym c.self.view_is)) c.told-told.ensures c.gain_of-gain.ensures c.owed_by-own.ensures) c.room.ensures c.if-not-room.true in
    record {
      possible = tt;
      replied = tt;
      booked = tt;
      refused = inl (arrival-full c.args.self.now c.args.conn c.args.judged.now.channel c.args.judged.now.raw (ap (λ h. is_full h c.args.judged.now.channel c.args.judged.now.raw) (sym c.self.view_is) ∙ past));
      unchanged = search rules;
    }

pub returns-in_err-add_arrival-clause-memory : goal.returns-in_err-add_arrival-clause-memory
returns-in_err-add_arrival-clause-memory g c =
    let h = c.args.self.now in
    let room : is_full c.self.inside.log.history c.args.judged.now.channel c.args.judged.now.raw ≡ false =
    asked-full _ _ _ _ _ _ (gain-owed _ _ _ _ _ (control_id_of c.args.judged.now.raw) c.gain_of-gain.result _ (c.requires.same_plan ∙ ap plan_in_force (sym c.self.view_is)) c.told-told.ensures c.gain_of-gain.ensures c.owed_by-own.ensures) c.room.ensures c.if-not-room.false in
    memory-last (arrive c.args.conn c.args.judged.now.channel c.args.judged.now.raw) h _ c.told-told.result
    (arrival-answered h c.args.conn c.args.judged.now.channel c.args.judged.now.raw c.told-told.result
    (ap (λ h. is_full h c.args.judged.now.channel c.args.judged.now.raw) (sym c.self.view_is) ∙ room)
    (ap (λ h. arrival_answer h c.args.judged.now.channel c.args.judged.now.raw) (sym c.self.view_is) ∙ c.told-told.ensures))
