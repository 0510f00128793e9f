-- How the identifier of a described value is spelled.
use Rattle.std.proofs.Common.{List, ℕ, inl, inr, sym, subst, arith}
use Rattle.std.specs.Prelude.{IsTrue}
use Rattle.std.proofs.lemmas.Bool.{false≢true}
use Rattle.sig_base.specs.declared.word.Word.TheVariants as w
use Rattle.sig_parser.specs.Grammar.{is_described_vid}
use Rattle.ty_parser.specs.declared.sort.Sort.{Sort}
use Rattle.ty_parser.specs.declared.sort.Sort.TheVariants as s
use Rattle.sig_base.specs.LongIdentifiers.{IsShort}
use Rattle.type_core.specs.Paths.{IsMemberIdentifier}
use Rattle.elab_types.proofs.spelling.Sorts.{IsTextOf}

pub value_text : (text : List ℕ) (so : Sort) → IsTrue (is_described_vid so) → IsTextOf so text → IsMemberIdentifier text × IsShort text
value_text text (s.Reserved w.KwEquals) e h = (inr h, subst IsShort (sym h) (omega arith))
value_text text s.Alphanumeric e h = (inl (inl h.0), h.1)
value_text text s.Symbolic e h = (inl (inr h.0), h.2)
value_text text s.Star e h = (inl (inr h.0), h.1)
value_text text _ e h = absurd (false≢true e)
