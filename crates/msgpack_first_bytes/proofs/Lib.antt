-- A case that cannot be and a choice by a test; a rule over a range of numbers by one computed test; forms as lists of numbers; what an entry says.
pub mod Logic
pub mod Range
pub mod Forms
pub mod Entries
