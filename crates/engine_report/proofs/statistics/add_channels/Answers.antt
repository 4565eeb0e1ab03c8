use Rattle.std.proofs.Common.{ℕ, List, ◌++◌, string_bytes, ap, sym, arith, ◌∙◌}
use Rattle.std.specs.Option.{option_copied}
use Rattle.stat_count.specs.declared.ChannelCounts.{ChannelCounts}
use Rattle.engine_report.specs.Lines.{channel_line}
use Rattle.engine_report.proofs.Placed.{lines-all, lines-more, some-within}
use Rattle.engine_report.proofs.statistics.add_channels.Goals.{in-Some+in_ok-add_channel, in_default}
use Rattle.engine_report.proofs.statistics.add_channels.Goals as goal

pub loop-place-preserved : goal.loop-place-preserved
loop-place-preserved c =
    elim c.match-channel.branch [
      | in-Some+in_ok-add_channel w ↦
          let line = λ (name : List ℕ) (counts : ChannelCounts). string_bytes c.loop-place.text ++ channel_line name counts in
          lines-more _ c.args.plan.now.channels c.loop-place.place w.in-Some.channel.now (string_bytes c.args.text.now) _ _ c.loop-place.invariant
          (sym c.channel.ensures ∙ ap option_copied w.in-Some.is)
          (ap string_bytes w.text-is ∙ (w.in_ok-add_channel.ensures ∙ (ap (λ n. line n w.channel-in-Some.result) w.name.ensures ∙ ap (line w.in-Some.channel.now.name) w.channel-in-Some.ensures.value)))
      | in_default w ↦ absurd (some-within c.args.plan.now.channels c.loop-place.place (sym c.channel.ensures ∙ ap option_copied w.in_default.is) (omega arith))
    ]

pub returns : goal.returns
returns c = lines-all _ c.args.plan.now.channels c.loop-place.place _ _ c.loop-place.invariant (omega arith)
