use Rattle.std.proofs.Common.{◌≡◌}
use Rattle.std.proofs.lemmas.Result.{IfOk-weaker}
use Rattle.iso_normal.proofs.InversePairs.{pairs_permuted}
use Rattle.conv_build.proofs.BuiltConverters.{both_convert, both_short, from_short, to_short, undo_each_other}
use Rattle.conv_build.proofs.converters.build.Goals as goal

pub contracted-requires : goal.contracted-requires
contracted-requires c = record { permuted = pairs_permuted ◌≡◌ c.requires.paired }

pub returns : goal.returns
returns c = record {
  to = IfOk-weaker c.contracted.result _ _ (λ r made. to_short _ _ _ c.requires.from c.requires.to c.requires.paired r.to r.from made) c.contracted.ensures.value;
  from = IfOk-weaker c.contracted.result _ _ (λ r made. from_short _ _ _ c.requires.from c.requires.to c.requires.paired r.to r.from made) c.contracted.ensures.value;
  inverse_pair = IfOk-weaker c.contracted.result _ _ (λ r made. undo_each_other _ _ _ c.requires.from c.requires.to c.requires.paired r.to r.from made) c.contracted.ensures.value;
  to_type = IfOk-weaker c.contracted.result _ _ (λ r made. (undo_each_other _ _ _ c.requires.from c.requires.to c.requires.paired r.to r.from made).to_typed) c.contracted.ensures.value;
  from_type = IfOk-weaker c.contracted.result _ _ (λ r made. (undo_each_other _ _ _ c.requires.from c.requires.to c.requires.paired r.to r.from made).from_typed) c.contracted.ensures.value;
  converts = IfOk-weaker c.contracted.result _ _ (λ r made. both_convert _ _ _ c.requires.from c.requires.to c.requires.paired r.to r.from made) c.contracted.ensures.value;
  short = IfOk-weaker c.contracted.result _ _ (λ r made. both_short _ _ _ c.requires.from c.requires.to c.requires.paired r.to r.from made) c.contracted.ensures.value;
}
