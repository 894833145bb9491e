-- The two texts that the command `make` verifies, and what it says of them: a problem that is a chain of so many
-- implications and the denial of its end, and its refutation by resolution.
use Rattle.std.specs.Prelude.{ℕ, zero, suc, ◌+◌, ◌-◌, ◌*◌, List, [], ◌∷◌, ◌++◌, codes, decimal}
use Rattle.tptp_base.specs.Store.{Files}
use Rattle.szs_report.specs.Report.{text_line}

-- a text for each number below this one, in turn
abbrev pub below : ℕ → (ℕ → List ℕ) → List ℕ
below zero text = []
below (suc n) text = below n text ++ text n

-- ---- the problem

-- each of p0, p1 and so on gives the next
abbrev pub implication : ℕ → List ℕ
implication i =
    codes "cnf(a" ++ (decimal (i + 1) ++ (codes ",axiom,~ p" ++ (decimal i ++ (codes " | p"
    ++ (decimal (i + 1) ++ text_line (codes ")."))))))

-- p0 holds, so many implications lead on from it, and what they lead to is denied
abbrev pub problem : ℕ → List ℕ
problem n =
    text_line (codes "cnf(a0,axiom,p0).") ++ (below n implication ++ (codes "cnf(g,axiom,~ p"
    ++ (decimal n ++ text_line (codes ")."))))

-- the file of the problem
abbrev pub problem_name : List ℕ
problem_name = codes "make.p"

abbrev pub files : ℕ → Files
files n = (problem_name, problem n) ∷ []

-- ---- the derivation

-- a leaf for each implication
abbrev pub leaf : ℕ → List ℕ
leaf i =
    codes "cnf(b" ++ (decimal (i + 1) ++ (codes ",axiom,~ p" ++ (decimal i ++ (codes " | p"
    ++ (decimal (i + 1) ++ (codes ",file('make.p',a" ++ (decimal (i + 1) ++ text_line (codes "))."))))))))

-- the clauses of the problem
abbrev pub leaves : ℕ → List ℕ
leaves n =
    text_line (codes "cnf(b0,axiom,p0,file('make.p',a0)).") ++ (below n leaf ++ (codes "cnf(h,axiom,~ p"
    ++ (decimal n ++ text_line (codes ",file('make.p',g))."))))

-- a step resolves the one before with the next implication
abbrev pub step_after : ℕ → ℕ → List ℕ
step_after last next =
    codes "cnf(c" ++ (decimal next ++ (codes ",plain,p" ++ (decimal next ++ (codes ",inference(resolution,[],[c"
    ++ (decimal last ++ (codes ",b" ++ (decimal next ++ text_line (codes "]))."))))))))

-- from c1 on
abbrev pub step : ℕ → List ℕ
step i = step_after (i + 1) (i + 2)

-- the steps, the last of which is falsehood
abbrev pub steps : ℕ → List ℕ
steps n =
    text_line (codes "cnf(c1,plain,p1,inference(resolution,[],[b0,b1])).") ++ (below (n - 1) step
    ++ (codes "cnf(e,plain,$false,inference(resolution,[],[c" ++ (decimal n ++ text_line (codes ",h]))."))))

abbrev pub derivation : ℕ → List ℕ
derivation n = leaves n ++ steps n

-- ---- what is said

-- so many lines, so many of them by norm and so many by resolution
abbrev pub counted : ℕ → ℕ → ℕ → ℕ → List ℕ
counted n lines norms resolutions =
    codes "make " ++ (decimal n ++ (codes ": " ++ (decimal lines ++ (codes " lines, " ++ (decimal norms
    ++ (codes " norm, " ++ (decimal resolutions ++ text_line (codes " resolution, verified"))))))))

abbrev pub summary : ℕ → List ℕ
summary n = counted n (2 * n + 3) (n + 2) (n + 1)
