use Rattle.std.proofs.Common.{◌∙◌, [], ap, sym}
use Rattle.std.specs.Option.{option_map_or}
use Rattle.er7_tree.specs.Path.{value}
use Rattle.answer_words.proofs.Paths.{unparsed}
use Rattle.answer_words.proofs.parts.text_at.Goals as goal

pub returns-in-Err : goal.returns-in-Err
returns-in-Err c = c.new.ensures.items ∙ sym (ap (λ found. option_map_or (value c.args.answer.now) found []) (unparsed _ _ _ (sym c.in-Err.is ∙ c.parse.ensures)))
