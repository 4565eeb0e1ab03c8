use Rattle.std.proofs.Common.{ap, codes, false, option_map, sym, ◌∙◌}
use Rattle.std.specs.Option.{option_map_or}
use Rattle.std.specs.Str.{bytes_eq}
use Rattle.clap.specs.Words.{found_of}
use Rattle.clap.proofs.WalkLemmas.{first_value-rows}
use Rattle.service_words.proofs.command_line.wants_memory.Goals as goal

pub returns-in-Some : goal.returns-in-Some
returns-in-Some c =
    let found = found_of c.args.matches.now in
    c.eq.ensures
    ∙ ap (λ o. option_map_or (λ text. bytes_eq text (codes "true")) o false)
    (ap (option_map (λ s. s.now)) (sym c.in-Some.is) ∙ (c.get_str.ensures ∙ first_value-rows found _))

pub returns-in-None : goal.returns-in-None
returns-in-None c =
    let found = found_of c.args.matches.now in
    ap (λ o. option_map_or (λ text. bytes_eq text (codes "true")) o false)
    (ap (option_map (λ s. s.now)) (sym c.in-None.is) ∙ (c.get_str.ensures ∙ first_value-rows found _))
