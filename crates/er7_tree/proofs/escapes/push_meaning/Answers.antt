use Rattle.std.proofs.Common.{◌∙◌, sym}
use Rattle.er7_tree.proofs.Escaping.{meaning_pairs, meaning_bad}
use Rattle.er7_tree.proofs.escapes.push_meaning.Goals as goal

pub returns-then-not-are_hex_pairs : goal.returns-then-not-are_hex_pairs
returns-then-not-are_hex_pairs c =
    rw (meaning_bad c.args.delims.now c.args.inner.now c.in-len1-up.len_at_least (sym c.is_empty.ensures ∙ c.if-is_empty.false) c.if-first-ne-HEXADECIMAL.false (sym c.are_hex_pairs.ensures ∙ c.if-not-are_hex_pairs.true))
    c.push_sequence-then-not-are_hex_pairs.ensures

pub returns : goal.returns
returns c =
    rw (meaning_pairs c.args.delims.now c.args.inner.now c.in-len1-up.len_at_least (sym c.is_empty.ensures ∙ c.if-is_empty.false) c.if-first-ne-HEXADECIMAL.false (sym c.are_hex_pairs.ensures ∙ c.if-not-are_hex_pairs.false))
    c.push_hex.ensures
