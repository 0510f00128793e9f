-- Bodies that have more entries, which are by now what they are.
use Rattle.std.proofs.Common.{◌≡◌, [], ◌∷◌, ◌++◌, length, drop, refl, sym, ap, ap₂, ◌∙◌, append-nil, append_assoc}
use Rattle.std.proofs.Math.Seq.{drop-append_seam}
use Rattle.std.proofs.lemmas.List.{length-map}
use Rattle.elab_env.specs.Realizations.{resolved}
use Rattle.elab_rules.specs.declared.entry.Entry.{Entry}
use Rattle.elab_rules.specs.declared.progress.Progress.{Progress}
use Rattle.elab_rules.specs.Environments.{Environment}
use Rattle.elab_rules.specs.Extended.{IsExtended}
use Rattle.elab_rules.specs.Replacing.{entry_with}
use Rattle.elab_rules.specs.Standing.{Mentions}
use Rattle.elab_rules.specs.Views.{body_at}
use Rattle.elab_rules.proofs.Entries.{with_appended}
use Rattle.elab_phrases.proofs.Sites.{body_mentions}

pub extended_itself : (p : Progress) (own : Environment) → IsExtended p own own
extended_itself p own = record { more = []; grown = sym (append-nil own); stays = refl }

pub extended_by : (p : Progress) (own body : Environment) (entry : Entry) → body ≡ own ++ entry ∷ [] → entry_with (resolved p.table.realizations) entry ≡ entry → IsExtended p own body
extended_by p own body entry pushed same = record { more = entry ∷ []; grown = pushed; stays = ap (λ e. e ∷ []) same }

pub extended_twice : (p q : Progress) (own body whole : Environment) → Mentions p q → IsExtended p own body → IsExtended q body whole → IsExtended q own whole
extended_twice p q own body whole mentions h k = record {
  more = h.more ++ k.more;
  grown = k.grown ∙ ap (λ env. env ++ k.more) h.grown ∙ append_assoc own h.more k.more;
  stays = with_appended (resolved q.table.realizations) h.more k.more ∙ ap₂ ◌++◌ (body_mentions p q h.more mentions ∙ h.stays) k.stays;
}

-- what was added is the same by now
pub added_part : (p q : Progress) (own body : Environment) → IsExtended q own body → drop (length (body_at p own)) (body_at q body) ≡ drop (length own) body
added_part p q own body h =
    ap (λ n. drop n (body_at q body)) (length-map own (entry_with (resolved p.table.realizations)) ∙ sym (length-map own (entry_with (resolved q.table.realizations))))
    ∙ ap (λ env. drop (length (body_at q own)) (body_at q env)) h.grown
    ∙ ap (drop (length (body_at q own))) (with_appended (resolved q.table.realizations) own h.more)
    ∙ drop-append_seam (body_at q own) (body_at q h.more)
    ∙ h.stays
    ∙ sym (ap (drop (length own)) h.grown ∙ drop-append_seam own h.more)
