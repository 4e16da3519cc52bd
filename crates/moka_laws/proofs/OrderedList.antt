-- The course of the write list: after each step it has just the members' numbers, each once.
use Rattle.std.proofs.Common.{ℕ, List}
use Rattle.moka_laws.proofs.Types.{Member, Contents, Choice, Removes, MovesToBack, Drops}
use Rattle.moka_records.specs.Records.{without_member, to_back, without_number, number_to_back, IsListOf}
use Rattle.moka_parts.specs.Maintenance.{after_choice}
use Rattle.moka_parts.specs.Order.{written_after_choice}
use Rattle.moka_records.proofs.WriteList.{once_taken_out, once_moved}
use Rattle.moka_laws.proofs.InOrder.{members_taken_out, members_both_moved}

module _ (access : List Member) (ns : List ℕ) (h : IsListOf access ns) where
  -- a member leaves
  list_taken_out : (n : ℕ) → IsListOf (without_member n access) (without_number n ns)
  list_taken_out n = (once_taken_out n ns h.0, members_taken_out ns access h.1 n)

  -- a member goes to the back of both lists
  list_moved : (n : ℕ) → IsListOf (to_back n access) (number_to_back n ns)
  list_moved n = (once_moved n ns h.0, members_both_moved ns access h.1 n)

module _ {K V : Type 0} where
  -- a step
  pub choice_listed : (c : Contents K V) (ns : List ℕ) (x : Choice) → IsListOf c.access ns → IsListOf (after_choice c x).access (written_after_choice ns x)
  choice_listed c ns (Removes n cause) h = list_taken_out c.access ns h n
  choice_listed c ns (MovesToBack n) h = list_moved c.access ns h n
  choice_listed c ns (Drops i) h = h
