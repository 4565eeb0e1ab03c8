use Rattle.ghost_log.proofs.Keeping.{begins}
use Rattle.ghost_log.proofs.rule.BlankLog.new.Goals as goal

pub of_words-requires : goal.of_words-requires
of_words-requires g c = begins
