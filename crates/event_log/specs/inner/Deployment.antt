-- What proofs use beside the page Deployment.
use Rattle.std.specs.Prelude.{ℕ, Bool, false, Option, None, Some}
use Rattle.plan_text.specs.Entries.{ChannelEntry}
use Rattle.event_log.specs.declared.refusal.DeployRefusal.{DeployRefusal}
use Rattle.event_log.specs.declared.refusal.DeployRefusal.TheVariants.{ChannelsDiffer, DestinationInUse, TooMany}
use Rattle.event_log.specs.declared.refusal.DeployRefusal.TheVariants as deploy_refusal
use Rattle.event_log.specs.Deployment.{same_name}

-- the number of a refusal to deploy
abbrev pub deploy_refusal_code : DeployRefusal → ℕ
deploy_refusal_code (DestinationInUse d) = 1
deploy_refusal_code TooMany = 2
deploy_refusal_code ChannelsDiffer = 3
deploy_refusal_code deploy_refusal.Full = 4
deploy_refusal_code deploy_refusal.NoMemory = 5

-- whether there are two channels, and they have the same name
abbrev pub same_at : Option ChannelEntry → Option ChannelEntry → Bool
same_at (Some old) (Some new) = same_name old new
same_at (Some old) None = false
same_at None new = false
