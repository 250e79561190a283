use Rattle.std.proofs.Common.{◌≡◌, ◌+◌, ◌*◌, ◌≤◌, ℕ, arith, rules}
use Rattle.std.proofs.Math.Nat.{mul-le-mul_left, mul_comm}
use Rattle.sound_image.specs.Places.{sector_in}
use Rattle.mount.proofs.keeping.sector_at.Goals as goal

pub returns-clause-place : goal.returns-clause-place
unfolding sector_in
returns-clause-place c = search rules

-- a group ends where the next begins, or before the last ends
ends : (group groups size place n : ℕ) → group + 1 ≤ groups → place + n ≤ size → group * size + place + n ≤ groups * size
ends group groups size place n low fits =
    let all : size * (group + 1) ≤ size * groups = mul-le-mul_left size low in
    omega (arith, all, mul_comm size (group + 1), mul_comm size groups)

pub returns-clause-room : goal.returns-clause-room
returns-clause-room c n fits =
    let in_place : c.from.result ≡ c.args.group * (c.args.g.now.blocks * 8) + c.args.place = search rules in
    omega (arith, in_place, ends c.args.group c.args.g.now.groups (c.args.g.now.blocks * 8) c.args.place n (omega arith) fits)
