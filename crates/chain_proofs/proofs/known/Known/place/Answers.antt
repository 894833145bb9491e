use Rattle.std.proofs.Common.{ℕ, ◌≡◌, Bool, true, nat_eq, List}
use Rattle.std.specs.Prelude.{Vec}
use Rattle.std.specs.declared.alloc.Global.{Global}
use Rattle.std.specs.Cmp.Lexicographic.{pointwise, bytes_decides}
use Rattle.chain_proofs.proofs.Knowing.{placed}
use Rattle.chain_proofs.proofs.known.Known.place.Goals as goal

abbrev Key : Type 0
Key = Vec ℕ Global

abbrev text : Key → List ℕ
text k = k.items

abbrev same : Key → Key → Bool
same a b = pointwise nat_eq a.items b.items

knows : (a b : Key) → text a ≡ text b → same a b ≡ true
knows a b e = (bytes_decides a.items b.items).1 e

tells : (a b : Key) → same a b ≡ true → text a ≡ text b
tells a b e = (bytes_decides a.items b.items).0 e

pub returns : goal.returns
returns c = placed text same knows tells c.args.self.now.keys.keys c.in_ok-key.key c.args.self.now.lits c.args.lit.now c.get_index_of.result c.requires c.in_ok-key.ensures c.get_index_of.ensures.index c.get_index_of.ensures.found
