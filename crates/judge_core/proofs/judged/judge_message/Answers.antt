use Rattle.std.proofs.Common.{◌≡◌, ◌<◌, ◌≤◌, ◌∙◌, Some, length, sym, ap, arith, rules}
use Rattle.std.specs.Prelude.{slice_get, option_copied}
use Rattle.std.specs.Arc.{arc_value}
use Rattle.hl7_head.specs.Header.{header}
use Rattle.judge_core.specs.Judging.{verdict_of}
use Rattle.plan_text.specs.Entries.{IsPlan}
use Rattle.judge_core.proofs.Judgements.{says}
use Rattle.judge_core.proofs.Routing.{some-borrowed, allowed-channel, goes-after}
use Rattle.judge_core.proofs.judged.judge_message.Goals as goal

pub overflow_cast-channel : goal.overflow_cast-channel
overflow_cast-channel c =
    let few : length (arc_value c.args.plan).channels ≤ 64 = rw c.deref.ensures at c.rules.ensures.few_channels in
    let below : c.args.channel < 256 = omega (arith, c.requires.known) in
    search rules

pub unwrap-rules-requires : goal.unwrap-rules-requires
unwrap-rules-requires c =
    some-borrowed c.channel.result (arc_value c.args.plan).channels c.args.channel
    (rw c.deref-2.ensures at c.channel.ensures) c.requires.known

-- the plan's rules, and the channel that was found
rules-of : (c : goal.After-raw-1) → IsPlan (arc_value c.args.plan)
rules-of c = rw c.deref.ensures at c.rules.ensures

found-of : (c : goal.After-raw-1) → slice_get (arc_value c.args.plan).channels c.args.channel ≡ Some c.unwrap-rules.result.now
found-of c = sym (rw c.deref-2.ensures at c.channel.ensures) ∙ ap option_copied c.unwrap-rules.ensures

pub decide-requires-clause-stand : goal.decide-requires-clause-stand
decide-requires-clause-stand c =
    (allowed-channel (arc_value c.args.plan) c.args.channel c.unwrap-rules.result.now (rules-of c) (found-of c)).stand

pub decide-requires-clause-routes_stand : goal.decide-requires-clause-routes_stand
decide-requires-clause-routes_stand c =
    (allowed-channel (arc_value c.args.plan) c.args.channel c.unwrap-rules.result.now (rules-of c) (found-of c)).routes_stand

pub decide-requires-clause-goes : goal.decide-requires-clause-goes
decide-requires-clause-goes c =
    let message = says (arc_value c.args.plan) c.args.channel c.args.raw c.args.message.now (sym c.requires.read) in
    goes-after (arc_value c.args.plan) c.args.channel c.unwrap-rules.result.now c.args.raw c.args.message.now (rules-of c) (found-of c) message.read
    c.requires.fits.plain

pub invariant_of-result : goal.invariant_of-result
invariant_of-result c =
    let message = says (arc_value c.args.plan) c.args.channel c.args.raw c.args.message.now (sym c.requires.read) in
    let found : slice_get (arc_value c.args.plan).channels c.args.channel ≡ Some c.unwrap-rules.result.now =
    sym (rw c.deref-2.ensures at c.channel.ensures) ∙ ap option_copied c.unwrap-rules.ensures in
    record {
      known = c.requires.known;
      fits = c.requires.fits;
      header_is = ap Some c.in_ok-header.ensures ∙ message.header_is;
      key_is = rw c.in_ok-header.ensures at c.in_ok-key.ensures ∙ message.key_is;
      verdict_is = c.in_ok-verdict.ensures
          ∙ (ap (λ h. verdict_of (Some c.unwrap-rules.result.now) h c.args.message.now) c.in_ok-header.ensures
          ∙ (ap (λ o. verdict_of o (header c.args.message.now) c.args.message.now) (sym found) ∙ message.verdict_is));
    }
