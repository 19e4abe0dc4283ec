-- Two entries are equal as the code compares them where they are the same.
use Rattle.std.proofs.Common.{◌≡◌, Bool, rules, arith}
use Rattle.std.proofs.lemmas.Grind.{common_steps}
use Rattle.cl_writer.specs.declared.item.MemberKind.TheVariants as kinds
use Rattle.cl_writer.specs.declared.item.Item.{Item}
use Rattle.cl_writer.specs.declared.item.Item.TheVariants.{Text, Integer, Class, NameAndType, Member}
use Rattle.cl_writer.specs.contracts.item.ItemPartialEq.TheImpl.{ghosts}
use Rattle.cl_writer.specs.Items.{same_item}

agree : (a b : Item) → ghosts.eq a b ≡ same_item a b
agree (Text a1) (Text a2) = first_of (search rules, grind (arith, common_steps))
agree (Text a1) (Integer i2) = first_of (search rules, grind (arith, common_steps))
agree (Text a1) (Class a2) = first_of (search rules, grind (arith, common_steps))
agree (Text a1) (NameAndType a2 b2) = first_of (search rules, grind (arith, common_steps))
agree (Text a1) (Member k2 m2) = first_of (search rules, grind (arith, common_steps))
agree (Integer i1) (Text a2) = first_of (search rules, grind (arith, common_steps))
agree (Integer i1) (Integer i2) = first_of (search rules, grind (arith, common_steps))
agree (Integer i1) (Class a2) = first_of (search rules, grind (arith, common_steps))
agree (Integer i1) (NameAndType a2 b2) = first_of (search rules, grind (arith, common_steps))
agree (Integer i1) (Member k2 m2) = first_of (search rules, grind (arith, common_steps))
agree (Class a1) (Text a2) = first_of (search rules, grind (arith, common_steps))
agree (Class a1) (Integer i2) = first_of (search rules, grind (arith, common_steps))
agree (Class a1) (Class a2) = first_of (search rules, grind (arith, common_steps))
agree (Class a1) (NameAndType a2 b2) = first_of (search rules, grind (arith, common_steps))
agree (Class a1) (Member k2 m2) = first_of (search rules, grind (arith, common_steps))
agree (NameAndType a1 b1) (Text a2) = first_of (search rules, grind (arith, common_steps))
agree (NameAndType a1 b1) (Integer i2) = first_of (search rules, grind (arith, common_steps))
agree (NameAndType a1 b1) (Class a2) = first_of (search rules, grind (arith, common_steps))
agree (NameAndType a1 b1) (NameAndType a2 b2) = first_of (search rules, grind (arith, common_steps))
agree (NameAndType a1 b1) (Member k2 m2) = first_of (search rules, grind (arith, common_steps))
agree (Member kinds.Field m1) (Text a2) = first_of (search rules, grind (arith, common_steps))
agree (Member kinds.Method m1) (Text a2) = first_of (search rules, grind (arith, common_steps))
agree (Member kinds.InterfaceMethod m1) (Text a2) = first_of (search rules, grind (arith, common_steps))
agree (Member kinds.Field m1) (Integer i2) = first_of (search rules, grind (arith, common_steps))
agree (Member kinds.Method m1) (Integer i2) = first_of (search rules, grind (arith, common_steps))
agree (Member kinds.InterfaceMethod m1) (Integer i2) = first_of (search rules, grind (arith, common_steps))
agree (Member kinds.Field m1) (Class a2) = first_of (search rules, grind (arith, common_steps))
agree (Member kinds.Method m1) (Class a2) = first_of (search rules, grind (arith, common_steps))
agree (Member kinds.InterfaceMethod m1) (Class a2) = first_of (search rules, grind (arith, common_steps))
agree (Member kinds.Field m1) (NameAndType a2 b2) = first_of (search rules, grind (arith, common_steps))
agree (Member kinds.Method m1) (NameAndType a2 b2) = first_of (search rules, grind (arith, common_steps))
agree (Member kinds.InterfaceMethod m1) (NameAndType a2 b2) = first_of (search rules, grind (arith, common_steps))
agree (Member kinds.Field m1) (Member kinds.Field m2) = first_of (search rules, grind (arith, common_steps))
agree (Member kinds.Field m1) (Member kinds.Method m2) = first_of (search rules, grind (arith, common_steps))
agree (Member kinds.Field m1) (Member kinds.InterfaceMethod m2) = first_of (search rules, grind (arith, common_steps))
agree (Member kinds.Method m1) (Member kinds.Field m2) = first_of (search rules, grind (arith, common_steps))
agree (Member kinds.Method m1) (Member kinds.Method m2) = first_of (search rules, grind (arith, common_steps))
agree (Member kinds.Method m1) (Member kinds.InterfaceMethod m2) = first_of (search rules, grind (arith, common_steps))
agree (Member kinds.InterfaceMethod m1) (Member kinds.Field m2) = first_of (search rules, grind (arith, common_steps))
agree (Member kinds.InterfaceMethod m1) (Member kinds.Method m2) = first_of (search rules, grind (arith, common_steps))
agree (Member kinds.InterfaceMethod m1) (Member kinds.InterfaceMethod m2) = first_of (search rules, grind (arith, common_steps))

pub same_test : (let E : Item → Item → Bool = ghosts.eq in E) ≡ same_item
same_test = λ i. λ a. λ b. agree a b i
