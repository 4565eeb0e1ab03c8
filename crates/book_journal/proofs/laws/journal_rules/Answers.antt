use Rattle.book_journal.proofs.Recovered.{recovered}
use Rattle.book_journal.proofs.laws.journal_rules.Goals as goal

pub returns : goal.returns
returns c = record { recovered = recovered }
