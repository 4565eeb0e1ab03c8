use Rattle.std.proofs.Common.{◌≡◌, ◌++◌, ap, ◌∙◌, arith}
use Rattle.std.proofs.lemmas.Grind.{common_steps}
use Rattle.mllp_frame.specs.Framing.{blocks, block_bytes}
use Rattle.mllp_frame.proofs.DataLaws.{block_behind}
use Rattle.mllp_frame.proofs.write_block.Goals as goal

pub returns-clause-read_back : goal.returns-clause-read_back
returns-clause-read_back c = λ fits outside.
    let all : c.push_reserved-3.new.self.items ≡ c.args.out.now.items ++ block_bytes c.args.text.now = grind (arith, common_steps) in
    ap blocks all ∙ block_behind c.args.out.now.items c.args.text.now outside (record { plain = c.requires; bounded = fits })
