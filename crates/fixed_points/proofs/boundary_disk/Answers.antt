-- `fixed_points::boundary_disk` meets its contract. Each arm is given that the set is its variant's constructor; its points lie in the em box, so the machine
-- reads their numbers back as they are.
use mathlib.Core.Path.{◌≡◌, refl, sym, subst}
use mathlib.Core.Bool.{true}
use mathlib.Core.List.{Memᴰ}
use Rattle.geometry.specs.declared.Point.{Point}
use Rattle.geometry.specs.EmBox.{in_em_box}
use Rattle.fixed_points.specs.declared.Boundary.{Boundary}
use Rattle.fixed_points.specs.Boundary.{members, Boxed}
use Rattle.relative_disks.specs.Relative.{Near}
use Rattle.relative_disks.proofs.RelativeLaws.{wide-near, near_box}
use Rattle.fixed_points.proofs.KeptDisks.{keeps_none, keeps_point, keeps_diameter, keeps_circle}
use Rattle.fixed_points.proofs.boundary_disk.Goals as goal

-- the points of a set that is known lie in the em box, and are near
boxed : {R S : Boundary} → R ≡ S → Boxed (members R) → (p : Point) → Memᴰ p (members S) → in_em_box p ≡ true
boxed e b p m = b.in_box p (subst (λ (T : Boundary). Memᴰ p (members T)) (sym e) m)

near : {R S : Boundary} → R ≡ S → Boxed (members R) → (p : Point) → Memᴰ p (members S) → Near p
near e b p m = near_box p (boxed e b p m)

pub diameter-requires : goal.diameter-requires
diameter-requires c = record {
  near_a = near c.in-Two.is c.requires c.in-Two.a (Memᴰ.head refl);
  near_b = near c.in-Two.is c.requires c.in-Two.b (Memᴰ.tail (Memᴰ.head refl));
}

pub circle-requires : goal.circle-requires
circle-requires c = record {
  near_a = near c.in-Three.is c.requires c.in-Three.a (Memᴰ.head refl);
  near_b = near c.in-Three.is c.requires c.in-Three.b (Memᴰ.tail (Memᴰ.head refl));
  near_c = near c.in-Three.is c.requires c.in-Three.c (Memᴰ.tail (Memᴰ.tail (Memᴰ.head refl)));
}

pub returns-in-None : goal.returns-in-None
returns-in-None c = rw c.in-None.is keeps_none

pub returns-in-One : goal.returns-in-One
returns-in-One c =
    let b = c.requires in
    let n = near c.in-One.is b c.in-One.a (Memᴰ.head refl) in
    rw (c.in-One.is, wide-near n.x_near c.wide.ensures, wide-near n.y_near c.wide-in-One.ensures)
    (keeps_point c.in-One.a (boxed c.in-One.is b c.in-One.a (Memᴰ.head refl)))

pub returns-in-Two : goal.returns-in-Two
returns-in-Two c =
    let b = c.requires in
    rw (c.in-Two.is, c.diameter.ensures)
    (keeps_diameter c.in-Two.a c.in-Two.b
    (boxed c.in-Two.is b c.in-Two.a (Memᴰ.head refl)) (boxed c.in-Two.is b c.in-Two.b (Memᴰ.tail (Memᴰ.head refl))))

pub returns-in-Three : goal.returns-in-Three
returns-in-Three c =
    let b = c.requires in
    rw (c.in-Three.is, c.circle.ensures)
    (keeps_circle c.in-Three.a c.in-Three.b c.in-Three.c
    (boxed c.in-Three.is b c.in-Three.a (Memᴰ.head refl)) (boxed c.in-Three.is b c.in-Three.b (Memᴰ.tail (Memᴰ.head refl)))
    (boxed c.in-Three.is b c.in-Three.c (Memᴰ.tail (Memᴰ.tail (Memᴰ.head refl)))))
