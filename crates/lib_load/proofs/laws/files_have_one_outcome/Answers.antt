use Rattle.lib_load.proofs.OneLoading.{one_loading}
use Rattle.lib_load.proofs.laws.files_have_one_outcome.Goals as goal

pub returns : goal.returns
returns c = record { law = one_loading (record { one_list = c.one_list.ensures.law; no_refusal = c.no_refusal.ensures.law; one_refusal = c.one_refusal.ensures.law }) c.one_tree.ensures }
