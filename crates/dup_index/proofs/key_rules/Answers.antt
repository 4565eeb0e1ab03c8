use Rattle.dup_index.proofs.Seen.{place_of-added}
use Rattle.dup_index.proofs.key_rules.Goals as goal

pub returns : goal.returns
returns c = place_of-added
