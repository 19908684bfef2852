mod FewWords
mod NumberWords
