use Rattle.std.proofs.Common.{◌≡◌, take}
use Rattle.norm_parts.proofs.splitting.+copy_path.Given as goal

abbrev pub invariant-copy_paths-loop-path : goal.invariant-copy_paths-loop-path
invariant-copy_paths-loop-path l = l.copies ≡ take l.path-index l.paths
