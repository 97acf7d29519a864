-- The code's `==` with the kind of a line that closes a hub.
use mathlib.Core.Path.{◌≡◌, refl}
use denote.Enum.Bare.{sameb}
use Rattle.plan_tree.specs.declared.Kind.{Kind}
use Rattle.plan_tree.specs.declared.Kind.TheVariants.{Close, Node, Empty, Hub, Other}
use Rattle.plan_tree.specs.contracts.Kind.{the_type}
use Rattle.plan_tree.specs.Readers.{is_close}

pub same_close : (kind : Kind) → is_close kind ≡ sameb the_type kind Close
same_close Close = refl
same_close Node = refl
same_close Empty = refl
same_close Hub = refl
same_close Other = refl
