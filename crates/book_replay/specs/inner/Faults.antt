-- What a refusal of the book means for a replay.
use Rattle.event_log.specs.declared.refusal.CancelRefusal.{CancelRefusal}
use Rattle.event_log.specs.declared.refusal.CancelRefusal.TheVariants as cancel_refusal
use Rattle.event_log.specs.declared.refusal.DeployRefusal.{DeployRefusal}
use Rattle.event_log.specs.declared.refusal.DeployRefusal.TheVariants as deploy_refusal
use Rattle.event_log.specs.declared.refusal.PruneRefusal.{PruneRefusal}
use Rattle.event_log.specs.declared.refusal.PruneRefusal.TheVariants as prune_refusal
use Rattle.event_log.specs.declared.refusal.TakeRefusal.{TakeRefusal}
use Rattle.event_log.specs.declared.refusal.TakeRefusal.TheVariants as take_refusal
use Rattle.book_core.specs.declared.receipt.NotBooked.{NotBooked}
use Rattle.book_core.specs.declared.receipt.NotBooked.TheVariants as not_booked
use Rattle.book_replay.specs.declared.fault.ReplayFault.{ReplayFault}
use Rattle.book_replay.specs.declared.fault.ReplayFault.TheVariants.{NoMemory, Refused}

abbrev pub arrival_fault : NotBooked → ReplayFault
arrival_fault not_booked.NoMemory = NoMemory
arrival_fault not_booked.Full = Refused
arrival_fault not_booked.PlanChanged = Refused

abbrev pub take_fault : TakeRefusal → ReplayFault
take_fault take_refusal.NoMemory = NoMemory
take_fault take_refusal.Idle = Refused
take_fault (take_refusal.InFlightNow number) = Refused
take_fault (take_refusal.NotDue due) = Refused

abbrev pub cancel_fault : CancelRefusal → ReplayFault
cancel_fault cancel_refusal.NoMemory = NoMemory
cancel_fault cancel_refusal.NoSuchMessage = Refused
cancel_fault cancel_refusal.NothingWaiting = Refused

abbrev pub deploy_fault : DeployRefusal → ReplayFault
deploy_fault deploy_refusal.NoMemory = NoMemory
deploy_fault deploy_refusal.ChannelsDiffer = Refused
deploy_fault (deploy_refusal.DestinationInUse d) = Refused
deploy_fault deploy_refusal.TooMany = Refused
deploy_fault deploy_refusal.Full = Refused

abbrev pub prune_fault : PruneRefusal → ReplayFault
prune_fault prune_refusal.NoMemory = NoMemory
prune_fault (prune_refusal.StillLive number) = Refused
prune_fault prune_refusal.NoSuchMessage = Refused
prune_fault prune_refusal.TooMany = Refused
