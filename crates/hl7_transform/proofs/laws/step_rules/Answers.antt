use Rattle.hl7_transform.proofs.Controls.{lacks-after}
use Rattle.hl7_transform.proofs.Protecting.{kept-after}
use Rattle.hl7_transform.proofs.Refusing.{lacks-segment}
use Rattle.hl7_transform.proofs.laws.step_rules.Goals as goal

pub returns : goal.returns
returns c = record {
  control = λ b steps t message control all. lacks-after steps t b message control all;
  protected = λ steps t message paths stand. kept-after steps t message paths stand;
  refused = λ step t stands stopped. lacks-segment step t stands stopped;
}
