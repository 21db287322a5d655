-- What document 02, K5, tells of, at the gateway of specs/Tight: a machine that is blocked, a slot with the plant's mark, and the tester's
-- SYN+FIN.
-- Assumes nothing.
use Rattle.std.specs.Prelude.{List, [], ◌∷◌, ℕ, pos, replicate, set}
use Rattle.laws.specs.Signed.{minus}
use Rattle.gateway.specs.Calls.{State, state_of, cold_placing}
use Rattle.witnesses.specs.Tight.{gateway, syn}

-- 10.0.0.1 has a count of 2, which is T; its slot with 192.168.0.1 port 6379 is 8, and has the plant's mark alone
abbrev pub state : State
state =
    state_of
    (cold_placing gateway.settings)
    (set (replicate 16 0) 8 128)
    (0xFCE676E6 ∷ 0 ∷ 0 ∷ 0 ∷ [])
    (pos 2 ∷ minus 32768 ∷ minus 32768 ∷ minus 32768 ∷ [])
    100

-- SYN and FIN from 10.0.0.1 to 192.168.0.1 port 6379: the flags are byte 33
abbrev pub syn_fin : List ℕ
syn_fin = set (syn 1 6379) 33 3
