use Rattle.std.proofs.Common.{ℕ, ◌||◌, List, sym, ap, ◌∙◌}
use Rattle.std.specs.Prelude.{Vec}
use Rattle.std.specs.declared.alloc.Global.{Global}
use Rattle.std.specs.Str.{bytes_eq}
use Rattle.std.proofs.lemmas.Slice.Eq.{bytes_eq-Decides}
use Rattle.include_resolve.specs.code.NameSet.{has}
use Rattle.include_resolve.proofs.Sets.{any_insert}
use Rattle.include_resolve.proofs.name_set.insert.Goals as goal

pub returns-clause-ok : goal.returns-clause-ok
returns-clause-ok c =
    λ t. ap (λ (ks : List (Vec ℕ Global)). has ks t) c.in_ok-insert.ensures.keys
    ∙ any_insert (λ (k : Vec ℕ Global). k.items) _ (λ a b e. sym ((bytes_eq-Decides a.items b.items).0 e)) t c.args.known.now.keys c.in_ok-key.key
    ∙ ap (λ (bs : List ℕ). bytes_eq t bs || has c.args.known.now.keys t) c.in_ok-key.ensures.items
