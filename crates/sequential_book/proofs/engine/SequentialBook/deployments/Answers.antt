use Rattle.std.proofs.Common.{◌∙◌, sym, ap, length, zero-add}
use Rattle.std.specs.List.{filter_map}
use Rattle.event_log.specs.Deployment.{deployments}
use Rattle.event_log.specs.History.{deployed_by}
use Rattle.sequential_book.proofs.Messages.{deployments-counted}
use Rattle.sequential_book.proofs.engine.SequentialBook.deployments.Goals as goal

pub returns : goal.returns
returns c = rw c.deref.ensures.value at c.deployments.ensures ∙ (deployments-counted c.self.inside.entries.items ∙ (sym (zero-add (length (filter_map deployed_by c.self.inside.entries.items))) ∙ ap deployments c.self.view_is))
