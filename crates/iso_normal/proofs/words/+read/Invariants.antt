use Rattle.std.proofs.Common.{take}
use Rattle.iso_normal.proofs.ReadWords.{IsRead}
use Rattle.iso_normal.proofs.words.+read.Given as goal

abbrev pub invariant-loop-c : goal.invariant-loop-c
invariant-loop-c l = IsRead (take l.c-index l.all) l.word l.fn.at l.at l.done
