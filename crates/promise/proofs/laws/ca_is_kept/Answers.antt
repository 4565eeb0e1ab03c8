use Rattle.std.proofs.Common.{subst, sym}
use Rattle.event_log.specs.History.{History}
use Rattle.promise.specs.Promise.{IsHeld, IsPromised}
use Rattle.promise.proofs.Answered.{empty-sound, held-at, none-yet, promised, promised-unbooked}
use Rattle.promise.proofs.Connections.{acknowledged}
use Rattle.promise.proofs.laws.ca_is_kept.Goals as goal

pub returns-clause-acknowledged : goal.returns-clause-acknowledged
returns-clause-acknowledged c opening entries book sound made old new receipts books begins conn channel answers are known answer one due has positive =
    subst (λ (b : History). IsPromised opening entries b channel answer.raw) (sym made.is)
    (acknowledged opening entries sound made.legal old new receipts books begins conn channel answers are known answer one due has positive)

pub returns-clause-answered : goal.returns-clause-answered
returns-clause-answered c opening entries book sound made channel raw answer success arrival =
    subst (λ (b : History). IsPromised opening entries b channel raw) (sym made.is) (promised opening sound entries made.legal channel raw answer success arrival)

pub returns-clause-repeated_unbooked : goal.returns-clause-repeated_unbooked
returns-clause-repeated_unbooked c opening entries book sound made channel raw known =
    subst (λ (b : History). IsPromised opening entries b channel raw) (sym made.is) (promised-unbooked opening sound entries made.legal channel raw known)

pub returns-clause-no_other : goal.returns-clause-no_other
returns-clause-no_other c opening entries book sound made index n m is =
    subst (λ (b : History). IsHeld opening entries b n m) (sym made.is) (held-at opening sound entries made.legal index n m is)

pub returns-clause-empty : goal.returns-clause-empty
returns-clause-empty c plan events_max good few = (empty-sound plan events_max good few, none-yet plan events_max)
