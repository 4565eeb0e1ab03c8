use Rattle.std.proofs.Common.{◌<◌, length, arith, refl}
use Rattle.event_log.proofs.Owing.{few-deliveries, committed_by_new-more}
use Rattle.event_log.proofs.answers.committed_by_new.Goals as goal

pub loop-delivery-init : goal.loop-delivery-init
loop-delivery-init c = record { owed_is = refl; few = omega arith }

pub overflow_add-owed-in-loop-delivery : goal.overflow_add-owed-in-loop-delivery
overflow_add-owed-in-loop-delivery c = omega (arith, few-deliveries c.args.deliveries.now c.requires.within c.requires.once)

pub loop-delivery-preserved : goal.loop-delivery-preserved
loop-delivery-preserved c =
    let inside : c.loop-delivery.delivery-index < length c.args.deliveries.now = omega arith in
    record {
      owed_is = omega (arith, committed_by_new-more c.args.plan.now c.args.deliveries.now c.loop-delivery.delivery-index c.delivery-item.result inside c.delivery-item.is);
      few = omega arith;
    }

pub returns-clause-bound : goal.returns-clause-bound
returns-clause-bound c = omega (arith, few-deliveries c.args.deliveries.now c.requires.within c.requires.once)
