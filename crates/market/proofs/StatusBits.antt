-- A byte's status bits: each is the byte's own, and a byte in range has no other.
use mathlib.Core.Path.{◌≡◌, ap}
use Prim.Native.Nat.{ℕ, ◌/◌, ◌%◌, ◌≤◌}
use native.Mathlib.Omega.{arith}
use lib.Dec.{eqb}
use Rattle.market.specs.Bits.{committed, available, active_schedule, on_line_supplemental, status_bits}

pub committed_kept : (n : ℕ) → committed (status_bits n) ≡ committed n
committed_kept n = let e : n % 16 / 1 % 2 ≡ n / 1 % 2 = omega arith in ap (λ (m : ℕ). eqb m 1) e

pub available_kept : (n : ℕ) → available (status_bits n) ≡ available n
available_kept n = let e : n % 16 / 2 % 2 ≡ n / 2 % 2 = omega arith in ap (λ (m : ℕ). eqb m 1) e

pub active_schedule_kept : (n : ℕ) → active_schedule (status_bits n) ≡ active_schedule n
active_schedule_kept n = let e : n % 16 / 4 % 2 ≡ n / 4 % 2 = omega arith in ap (λ (m : ℕ). eqb m 1) e

pub on_line_supplemental_kept : (n : ℕ) → on_line_supplemental (status_bits n) ≡ on_line_supplemental n
on_line_supplemental_kept n = let e : n % 16 / 8 % 2 ≡ n / 8 % 2 = omega arith in ap (λ (m : ℕ). eqb m 1) e

pub all_bits : (n : ℕ) → n ≤ 15 → status_bits n ≡ n
all_bits n h = omega arith
