use Rattle.std.proofs.Common.{◌≡◌, ◌++◌, ◌∷◌, [], map, drop}
use Rattle.lib_index.specs.IndexText.{list_text, flag}
use Rattle.type_core.specs.Lists.{concatenated}
use Rattle.lib_index.proofs.encoding.push_marks.Given as goal

abbrev pub invariant-loop-mark : goal.invariant-loop-mark
invariant-loop-mark l = l.out ++ concatenated (map (λ mark. flag mark ∷ []) (drop l.mark-index l.marks)) ≡ l.fn.out
    ++ list_text (λ mark. flag mark ∷ []) l.marks
