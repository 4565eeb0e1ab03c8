use Rattle.std.proofs.Common.{◌≡◌, ◌≢◌, Some, None, IfSome, get_or, ◌+◌, map, [], ◌++◌, take, sym, subst}
use Rattle.std.proofs.lemmas.Result.{IfOk-weaker}
use Rattle.memchr.specs.Find.{IsFirstByte, is_byte2}
use Rattle.mllp_frame.specs.Framing.{start_block, end_block}
use Rattle.mllp_frame.specs.inner.Event.{event_of}
use Rattle.mllp_frame.specs.inner.Framing.{shortened, begun_block, ending_block}
use Rattle.mllp_frame.specs.inner.Stage.{Reads}
use Rattle.mllp_frame.proofs.ReadSteps.{reads_on}
use Rattle.mllp_frame.proofs.Steps.{behind, data_all, data_end, short_more, plain_all, plain_before}
use Rattle.mllp_frame.proofs.stage.read_inside.Goals as goal

pub read_end-requires : goal.read_end-requires
read_end-requires c =
    let found : IsFirstByte (is_byte2 start_block end_block) c.in_ok-rest.rest.now (Some c.in-Some.at) = subst (λ o. IsFirstByte (is_byte2 start_block end_block) c.in_ok-rest.rest.now o) c.in-Some.is c.in_ok-rest.ensures.first in
    rw c.in_ok-keep-in-Some.ensures (short_more c.read_starts.new.bytes.items (take c.in-Some.at c.in_ok-rest.rest.now) c.in_ok-rest.ensures.short (plain_before [] c.in_ok-rest.rest.now c.in-Some.at found.0))

pub returns-in_ok-keep-in-None-clause-reads : goal.returns-in_ok-keep-in-None-clause-reads
returns-in_ok-keep-in-None-clause-reads c =
    let none : IsFirstByte (is_byte2 start_block end_block) c.in_ok-rest.rest.now None = subst (λ o. IsFirstByte (is_byte2 start_block end_block) c.in_ok-rest.rest.now o) c.in-None.is c.in_ok-rest.ensures.first in
    let old = map event_of c.args.events.now.items in
    let new = map event_of c.read_starts.new.events.items in
    let d = c.read_starts.new.bytes.items in
    let here = data_all new c.in_ok-rest.rest.now d c.in_ok-rest.ensures.short none in
    rw c.in_ok-keep-in-None.ensures (reads_on old new new (begun_block c.args.bytes.items ++ c.args.piece.now) (begun_block d ++ c.in_ok-rest.rest.now) (begun_block (shortened (d ++ c.in_ok-rest.rest.now)) ++ []) c.in_ok-rest.ensures.reads here)

pub returns-in_ok-keep-in-None-clause-short : goal.returns-in_ok-keep-in-None-clause-short
returns-in_ok-keep-in-None-clause-short c =
    let none : IsFirstByte (is_byte2 start_block end_block) c.in_ok-rest.rest.now None = subst (λ o. IsFirstByte (is_byte2 start_block end_block) c.in_ok-rest.rest.now o) c.in-None.is c.in_ok-rest.ensures.first in
    rw c.in_ok-keep-in-None.ensures (short_more c.read_starts.new.bytes.items c.in_ok-rest.rest.now c.in_ok-rest.ensures.short (plain_all [] c.in_ok-rest.rest.now none))

pub returns-in_ok-keep-in-Some-clause-reads : goal.returns-in_ok-keep-in-Some-clause-reads
returns-in_ok-keep-in-Some-clause-reads c =
    let rest = c.in_ok-rest.rest.now in
    let at = c.in-Some.at in
    let found : IsFirstByte (is_byte2 start_block end_block) rest (Some at) = subst (λ o. IsFirstByte (is_byte2 start_block end_block) rest o) c.in-Some.is c.in_ok-rest.ensures.first in
    let ends : get_or rest at 0 ≡ start_block → ⊥ = subst (λ o. IfSome o (λ at. get_or rest at 0 ≢ start_block)) c.in-Some.is c.in_ok-rest.ensures.ends in
    let d = c.read_starts.new.bytes.items in
    let kept : c.keep-in-Some.new.bytes.items ≡ shortened (d ++ take at rest) = c.in_ok-keep-in-Some.ensures in
    let old = map event_of c.args.events.now.items in
    let mid = map event_of c.read_starts.new.events.items in
    let new = map event_of c.read_end.new.events.items in
    let left = behind rest (at + 1) in
    let here = data_end mid rest d at c.in_ok-rest.ensures.short found.0 found.1 ends in
    let ended = subst (λ k. Reads mid mid (begun_block d ++ rest) (ending_block k ++ left)) (sym kept) here in
    let whole = reads_on old mid mid (begun_block c.args.bytes.items ++ c.args.piece.now) (begun_block d ++ rest) (ending_block c.keep-in-Some.new.bytes.items ++ left) c.in_ok-rest.ensures.reads ended in
    IfOk-weaker c.read_end.result _ _ (λ next more. reads_on old mid new _ _ _ whole more) c.read_end.ensures.reads
