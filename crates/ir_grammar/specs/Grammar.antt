-- The grammar of modules: the productions of each nonterminal.
use Rattle.std.specs.Prelude.{List}
use Rattle.ir_grammar.specs.declared.grammar.Name.{Name}
use Rattle.ir_grammar.specs.declared.grammar.Name.TheVariants as the
use Rattle.ir_grammar.specs.Items.{Production}
use Rattle.ir_grammar.specs.Attributes.{parenthesized, parentheses_part, braced, braces_part, group, attribute, call_attribute, equal_string, attribute_align, extension, attachment, attached_node, comma_attachment, align_part, align_or_attachment, meta_value, meta_node}
use Rattle.ir_grammar.specs.Types.{type, type_body}
use Rattle.ir_grammar.specs.Constants.{constant, element, number, base, constant_index, operand}
use Rattle.ir_grammar.specs.Calls.{whole_type, types, more_types, next_type, argument, called, void_callee}
use Rattle.ir_grammar.specs.Values.{select_arms, alloca_part, alloca_option, index_part, index_or_attachment}
use Rattle.ir_grammar.specs.Blocks.{entry_part, entry_or_attachment, body, block, label_alone, lines, named_line, return_value, branch, switch_type, case}
use Rattle.ir_grammar.specs.Entities.{entity, target_part, variable, variable_part, variable_option, external, linkage_word, declared, declared_params, more_declared, next_declared, param, param_name}

-- What stands for a nonterminal.
abbrev pub productions : Name → List Production
productions the.Parenthesized = parenthesized
productions the.ParenthesesPart = parentheses_part
productions the.Braced = braced
productions the.BracesPart = braces_part
productions the.Group = group
productions the.Attribute = attribute
productions the.CallAttribute = call_attribute
productions the.EqualString = equal_string
productions the.AttributeAlign = attribute_align
productions the.Extension = extension
productions the.Attachment = attachment
productions the.AttachedNode = attached_node
productions the.CommaAttachment = comma_attachment
productions the.AlignPart = align_part
productions the.AlignOrAttachment = align_or_attachment
productions the.Type = type
productions the.Constant = constant
productions the.Element = element
productions the.Number = number
productions (the.Base count) = base count
productions the.ConstantIndex = constant_index
productions the.Operand = operand
productions the.WholeType = whole_type
productions the.Types = types
productions the.MoreTypes = more_types
productions the.NextType = next_type
productions the.Argument = argument
productions the.SelectArms = select_arms
productions the.AllocaPart = alloca_part
productions the.AllocaOption = alloca_option
productions the.IndexPart = index_part
productions the.IndexOrAttachment = index_or_attachment
productions the.EntryPart = entry_part
productions the.EntryOrAttachment = entry_or_attachment
productions the.Body = body
productions the.Block = block
productions the.Label = label_alone
productions (the.Lines phis) = lines phis
productions (the.NamedLine phis) = named_line phis
productions (the.Called phis) = called phis
productions (the.VoidCallee phis) = void_callee phis
productions the.ReturnValue = return_value
productions the.Branch = branch
productions the.SwitchType = switch_type
productions (the.Case ty) = case ty
productions the.Entity = entity
productions the.TargetPart = target_part
productions the.TypeBody = type_body
productions the.Variable = variable
productions the.VariablePart = variable_part
productions the.VariableOption = variable_option
productions the.External = external
productions the.LinkageWord = linkage_word
productions the.Declared = declared
productions the.DeclaredParams = declared_params
productions the.MoreDeclared = more_declared
productions the.NextDeclared = next_declared
productions the.Param = param
productions the.ParamName = param_name
productions the.MetaValue = meta_value
productions the.MetaNode = meta_node
