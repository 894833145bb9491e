use Rattle.spelled_items.proofs.DenotedForms.{denoting_written}
use Rattle.spelled_items.proofs.laws.what_denotes_can_be_written.Goals as goal

pub returns : goal.returns
returns c = λ v form formula has listed denotes numbered. denoting_written v form formula has listed denotes numbered
