use Rattle.std.proofs.Common.{ℕ, ◌≡◌, Bool, true, false, nat_eq, List, refl}
use Rattle.std.specs.Prelude.{Vec}
use Rattle.std.specs.declared.alloc.Global.{Global}
use Rattle.std.specs.Cmp.Lexicographic.{pointwise, bytes_decides}
use Rattle.chain_proofs.proofs.Knowing.{was_there}
use Rattle.chain_proofs.proofs.known.Known.add.Goals as goal

abbrev Key : Type 0
Key = Vec ℕ Global

abbrev text : Key → List ℕ
text k = k.items

abbrev same : Key → Key → Bool
same a b = pointwise nat_eq a.items b.items

knows : (a b : Key) → text a ≡ text b → same a b ≡ true
knows a b e = (bytes_decides a.items b.items).1 e

tells : (a b : Key) → same a b ≡ true → text a ≡ text b
tells a b e = (bytes_decides a.items b.items).0 e

pub returns-then-not-is_new-clause-added : goal.returns-then-not-is_new-clause-added
returns-then-not-is_new-clause-added c =
    let old = c.args.self.now in
    let off : c.in_ok-is_new.is_new ≡ false = c.if-not-is_new.true in
    (refl, was_there text same knows tells old.keys.keys c.in_ok-key.key c.in_ok-is_new.is_new old.lits c.args.lit c.requires c.in_ok-key.ensures c.in_ok-is_new.ensures.added off)
