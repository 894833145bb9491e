-- Texts that are appended in pieces.
use Rattle.std.proofs.Common.{◌≡◌, ℕ, List, ◌++◌, ◌∙◌, ap, append_assoc}

more : (t0 t1 t2 a b : List ℕ) → t1 ≡ t0 ++ a → t2 ≡ t1 ++ b → t2 ≡ t0 ++ (a ++ b)
more t0 t1 t2 a b one last = last ∙ ap (λ (t : List ℕ). t ++ b) one ∙ append_assoc t0 a b

-- a text of seven pieces, each appended to those before it
pub seven_pieces : (t0 t1 t2 t3 t4 t5 t6 a b c d e f g : List ℕ) → t0 ≡ a → t1 ≡ t0 ++ b → t2 ≡ t1 ++ c → t3 ≡ t2 ++ d → t4 ≡ t3 ++ e → t5 ≡ t4 ++ f → t6 ≡ t5 ++ g → t6 ≡ a ++ (b ++ (c ++ (d ++ (e ++ (f ++ g)))))
seven_pieces t0 t1 t2 t3 t4 t5 t6 a b c d e f g first second third fourth fifth sixth seventh =
    more t0 t1 t6 b (c ++ (d ++ (e ++ (f ++ g)))) second (more t1 t2 t6 c (d ++ (e ++ (f ++ g))) third (more t2 t3 t6 d (e ++ (f ++ g)) fourth (more t3 t4 t6 e (f ++ g) fifth (more t4 t5 t6 f g sixth seventh))))
    ∙ ap (λ (t : List ℕ). t ++ (b ++ (c ++ (d ++ (e ++ (f ++ g)))))) first
