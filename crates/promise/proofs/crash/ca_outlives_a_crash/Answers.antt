use Rattle.std.proofs.Common.{refl}
use Rattle.promise.proofs.Answered.{legal-prefix}
use Rattle.promise.proofs.Found.{found, found-repeat}
use Rattle.promise.proofs.crash.ca_outlives_a_crash.Goals as goal

pub returns-clause-found : goal.returns-clause-found
returns-clause-found g c opening entries seen number conn channel raw answer sound legal success outlives =
    found g.S.Store.view g.S.Store.recovers opening entries seen number conn channel raw answer sound legal success outlives

pub returns-clause-repeated_unbooked : goal.returns-clause-repeated_unbooked
returns-clause-repeated_unbooked g c before opening entries store channel raw given held sound legal committed known =
    found-repeat g.S.Store.view g.S.Store.recovers before opening entries store given held sound legal committed channel raw known

pub returns-clause-run : goal.returns-clause-run
returns-clause-run g c opening entries durable legal begins = record { is = refl; legal = legal-prefix opening durable entries begins legal }
